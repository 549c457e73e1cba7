use Rattle.fixed_units.proofs.Products.{*ℤ-+ℤ, *ℤ--ℤ, *ℤ-*ℤ}
use Rattle.fixed_units.proofs.laws.products_distribute.Goals as goal

pub returns : goal.returns
returns c = record { sum = *ℤ-+ℤ; difference = *ℤ--ℤ; associate = *ℤ-*ℤ }
