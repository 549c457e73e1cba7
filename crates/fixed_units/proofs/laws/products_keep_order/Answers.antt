use Rattle.std.proofs.Common.{arith}
use Rattle.fixed_units.proofs.Products.{product_at_most, at_most_from_product}
use Rattle.fixed_units.proofs.Signed.{signed}
use Rattle.fixed_units.proofs.laws.products_keep_order.Goals as goal

pub returns-clause-at_most : goal.returns-clause-at_most
returns-clause-at_most c m n k h = (product_at_most m n k (omega (arith, signed)), at_most_from_product m n k h)
