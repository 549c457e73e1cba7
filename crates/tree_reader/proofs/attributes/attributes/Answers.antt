use Rattle.std.proofs.Common.{◌≡◌, ◌<◌, ◌-◌, ◌∷◌, length, None, Some, true, refl, sym, ap, subst, ◌∙◌, arith, rules}
use Rattle.std.specs.Prelude.{IfSome}
use Rattle.json.specs.Json.{read_key}
use Rattle.json.proofs.Grammar.{read_key-shorter}
use Rattle.json.specs.Token.{Token}
use Rattle.serde_json.specs.Data.{no_members, put, string}
use Rattle.math_tree.specs.Attributes as math
use Rattle.math_tree.specs.Forms.{is_name, is_short_enough}
use Rattle.math_tree.specs.declared.attributes.Attribute.{Attribute}
use Rattle.tree_reader.proofs.Open.{ended, more, opened, text_read}
use Rattle.tree_reader.proofs.Puts.{attributes_put, both, formed_put}
use Rattle.tree_reader.proofs.attributes.attributes.Goals as goal

pub members-init : goal.members-init
members-init c =
    let yes : c.begins_object.result ≡ true = search rules in
    record {
      all = no_members;
      goes = λ depth some. opened depth c.args.reader.now c.begins_object.new.reader some (c.begins_object.ensures yes);
      are = search rules;
      formed = refl;
    }

pub returns-in_default-next : goal.returns-in_default-next
returns-in_default-next c =
    let l = c.members in
    let over : read_key l.reader ≡ Some (None, c.next_key.new.self) = grind arith in
    let less = read_key-shorter l.reader None c.next_key.new.self over in
    record {
      all = l.invariant.all;
      read = λ depth some. ended depth c.args.reader.now l.reader c.next_key.new.self l.invariant.all (l.invariant.goes depth some) over;
      shorter = omega (arith, less, (l.invariant.goes 1 (omega arith)).shorter);
      are = l.invariant.are;
      formed = l.invariant.formed;
    }

pub members-preserved : goal.members-preserved
members-preserved c =
    let l = c.members in
    let before = c.args.reader.now in
    let name = c.in-Some.name.now in
    let named = c.next_key.new.self in
    let rest = c.text.new.reader in
    let value = c.in-Some-2.value in
    let key : read_key l.reader ≡ Some (Some name, named) = grind arith in
    let read : named ≡ Token.string value ∷ rest =
    subst (λ o. IfSome o (λ text. named ≡ Token.string text ∷ rest)) c.in-Some-2.is c.in_ok-value.ensures.read in
    let short : is_short_enough value ≡ true =
    subst (λ o. IfSome o (λ text. is_short_enough text ≡ true)) c.in-Some-2.is c.in_ok-value.ensures.short in
    let named_well : is_name name ≡ true = search rules in
    let less : length rest < length named = omega (arith, ap length read) in
    let copied : c.in_ok-name.name ≡ name = c.in_ok-name.ensures in
    let attribute : Attribute = record { name = name; value = value } in
    record {
      all = put name (string value) l.invariant.all;
      goes = λ depth some. more depth before l.reader named rest l.invariant.all name (string value)
          (l.invariant.goes depth some) key (text_read (depth - 1) named rest value read) less;
      are =
          c.put.ensures.all
          ∙ ap (λ n. math.put (record { name = n; value = value }) l.found) copied
          ∙ ap (math.put attribute) l.invariant.are
          ∙ sym (attributes_put name value l.invariant.all);
      formed = formed_put name value l.invariant.all (both (is_name name) (is_short_enough value) named_well short) l.invariant.formed;
    }
