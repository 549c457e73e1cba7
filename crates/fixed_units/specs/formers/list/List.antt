-- Where a `List` keeps its items, so that a type may hold a `List` of itself.
--
-- A value of `List T` is, to a proof, the list of its items and nothing else. Rattle asks for the
-- names below (the kit's guide to unsafe code, "An owner of many values") before it admits a tree
-- whose node holds the list of its children. No contract of this project names them.
use mathlib.Core.Path.{◌≡◌, refl, sym}
use mathlib.Core.List.{List, []}
use mathlib.Core.Former.{Former, this, list, via, children}
use base.Stored.{code_map}
use denote.RattleType.{RattleType}
use denote.HoleLaws.{Alike}
use denote.HolePlaces.{Recodes, struct_places, laid}
use denote.Hole.Carrier.{listed, list-listed}
use denote.Hole.Fix.{over}
use denote.Param.Weighed.{Weighed, w_list}
use denote.Model.Placed.{view_places}
use Rattle.std.specs.formers.vec.Vec as buffer
use Rattle.std.specs.declared.alloc.Global.{Global}
use Rattle.std.specs.contracts.alloc.Global as heap
use Rattle.std.specs.contracts.impls.GlobalAllocator.TheImpl.{ghosts}
use Rattle.fixed_units.specs.declared.list.List.TheInside.{Inside}
use Rattle.fixed_units.specs.declared.list.List.TheView.{view, invariant}
use Rattle.fixed_units.specs.contracts.list.List as C
use Rattle.fixed_units.specs.contracts.list.List.TheInside as I

-- a `List` of what g makes is a list of it
abbrev pub the_former : Former {0} → Former {0}
the_former g = list g

-- a list weighs as much as the heaviest of its items
abbrev pub the_weighed : {g : Former {0}} → Weighed g → Weighed (the_former g)
the_weighed weighed = w_list weighed

-- a leaf has no children
pub the_empty : List ⊥
the_empty = []

-- the items, in their order
abbrev pub the_items : (X : Type 0) → List X → List X
the_items X items = items

pub the_items_listed : (X : Type 0) (items : List X)
    → listed _ (children (the_former this) X items) ≡ the_items X items
the_items_listed X items = list-listed X items

-- the one field, a buffer of items
abbrev the_field : Former {0}
the_field = via (buffer.the_former this Global) Inside (λ X inside. inside.items)
    (λ X items. record { items = items }) (λ X inside. refl) (λ X items. refl)

module _ (R S : RattleType) (h : R.Denot → S.Denot) where
  -- lists of alike items are alike: the view shows the buffer's items in their order
  pub the_places : Alike R S h
      → Alike (C.the_row R) (C.the_row S) ((the_former this).map R.Denot S.Denot h)
  the_places alike =
      view_places the_field (list this) view (λ X Y k inside. refl) (λ X inside. refl) R.Denot
      S.Denot h (C.the_row R).coded (C.the_row S).coded
      (invariant R.Denot) (invariant S.Denot) (λ inside p q. refl) (λ inside p q. refl)
      (λ inside e. tt) (λ inside e. tt)
      (over (I.the_row R)) (over (I.the_row S))
      (struct_places (I.the_type R) (I.the_type S) (buffer.mapped h, tt) _ (λ d. refl) refl
      (laid _ _ _ (buffer.the_places heap.the_row ghosts R S h alike), tt))

  pub the_codes_placed : Recodes R S h
      → Recodes (C.the_row R) (C.the_row S) ((the_former this).map R.Denot S.Denot h)
  the_codes_placed same items = sym (code_map R.coded.code S.coded.code h (λ x. sym (same x)) items)
