-- What an element means, from what it says and from what those below it mean.
use Rattle.std.proofs.Common.{◌≡◌, ◌∙◌, refl, sym, ap, subst, ℕ, ◌+◌, ◌≤◌, ◌&&◌, ◌||◌, List, [], ◌∷◌, length, Bool, true, false, cond, nat_lt, Option, None, Some, Ok, option_map, arith}
use Rattle.std.specs.Prelude.{unwrap_or}
use Rattle.std.specs.List.{flat_map, sum_by}
use Rattle.std.specs.Option.{option_map_or, option_or}
use Rattle.std.proofs.lemmas.Bool.{false_from_ne_true, le-ltb}
use Rattle.std.proofs.lemmas.List.Sums.{sum_by-cons}
use Rattle.std.proofs.lemmas.Option.{none-some}
use Rattle.json.specs.Json.{value}
use Rattle.serde_json.specs.Data.{Data, object, Items, no_items, item, Members}
use Rattle.math_tree.specs.Attributes.{bytes_of_attributes}
use Rattle.tree_json.specs.Elements.{Element, elements, are_attributes, attributes_held, attributes_of, below, bytes_held, has_attributes, has_children, is_map_of_attributes, has_known_keys, has_text, is_object, kind_in, listed_items, may_be_text_of, may_stand_below, name_in, text_held, text_in}
use Rattle.tree_json.specs.Faults.{fault_at, fault_of, first_fault_after, is_misplaced}
use Rattle.math_tree.specs.Forms.{is_name, is_short_enough, is_white_space, most_bytes, most_elements, most_levels}
use Rattle.math_tree.specs.Kinds.{is_text_kind, kind_of}
use Rattle.tree_json.specs.Parts.{AreOrderedAt, ReadsElement, ReadsElements}
use Rattle.tree_json.specs.Reading.{head_of}
use Rattle.math_tree.specs.Trees.{node}
use Rattle.math_tree.specs.declared.attributes.Attribute.{Attribute}
use Rattle.math_tree.specs.declared.kind.Kind.{Kind}
use Rattle.math_tree.specs.declared.node.Head.{Head}
use Rattle.math_tree.specs.declared.node.Node.{Node}
use Rattle.tree_json.specs.declared.portion.Portion.TheVariants.{Whole}
use Rattle.tree_json.proofs.ReadParts.{whole_part}
use Rattle.tree_reader.specs.Read.{HaveRead}
use Rattle.tree_reader.specs.Said.{members_of}
use Rattle.tree_reader.specs.declared.seen.Seen.{Seen}
use Rattle.tree_reader.proofs.Shapes.{attributes_said, children_said, get_attributes, keys_said, name_said, text_said}

-- an element that passes each test has no fault
none_of_all : (place bytes level : ℕ) (value : Data) → level ≤ most_levels → place ≤ most_elements
    → is_object value ≡ true → has_known_keys value ≡ true → is_name (name_in value) ≡ true
    → is_misplaced Whole place (name_in value) ≡ false → has_attributes value ≡ true → has_text value ≡ true
    → has_children value ≡ true → bytes ≤ most_bytes
    → fault_of Whole place bytes (record { level = level; value = value }) ≡ None
unfolding fault_of
none_of_all place bytes level value levels few is_one known named placed attributes text children small =
    rw (le-ltb most_levels level levels, le-ltb most_elements place few, is_one, known, named, placed, attributes, text, children, le-ltb most_bytes bytes small) refl

-- ---- the tests of texts and children

text_passes : (kind : Kind) (text : List ℕ) → is_short_enough text ≡ true → (is_text_kind kind ≡ false → text ≡ [])
    → may_be_text_of kind text ≡ true
unfolding is_white_space
text_passes kind text short fits = by (is_text_kind kind) fits
  where
    by : (b : Bool) → (b ≡ false → text ≡ []) → (is_short_enough text && (b || is_white_space text)) ≡ true
    by true fits = rw short refl
    by false fits = rw (short, fits refl) refl

children_pass : (kind : Kind) (items : Items) → is_text_kind kind ≡ false → may_stand_below kind items ≡ true
children_pass kind no_items plain = refl
children_pass kind (item given items) plain = rw plain refl

-- children stand only below an element that isn't a text element
abbrev pub MayHave : Kind → Option Items → Type 0
MayHave kind None = Unit {0}
MayHave kind (Some items) = is_text_kind kind ≡ false

may_pass : (kind : Kind) (children : Option Items) → MayHave kind children → may_stand_below kind (unwrap_or children no_items) ≡ true
may_pass kind None may = refl
may_pass kind (Some items) may = children_pass kind items may

text_kept : (kind : Kind) (text : List ℕ) → (is_text_kind kind ≡ false → text ≡ []) → cond (is_text_kind kind) text [] ≡ text
text_kept kind text fits = by (is_text_kind kind) fits
  where
    by : (b : Bool) → (b ≡ false → text ≡ []) → cond b text [] ≡ text
    by true fits = refl
    by false fits = sym (fits refl)

all_attributes : (all : Option Members) → option_map_or are_attributes all true ≡ true
    → option_map_or is_map_of_attributes (option_map object all) true ≡ true
all_attributes None formed = refl
all_attributes (Some all) formed = formed

mapped_or : (all : Option Members) → option_map_or attributes_of all [] ≡ unwrap_or (option_map attributes_of all) []
mapped_or None = refl
mapped_or (Some all) = refl

short_or : (text : Option (List ℕ)) → option_map_or is_short_enough text true ≡ true → is_short_enough (unwrap_or text []) ≡ true
unfolding is_short_enough
short_or None short = refl
short_or (Some text) short = short

-- ---- none

same_numbers : {A : Type 0} (made : ℕ → ℕ → A) (a b m n : ℕ) → a ≡ b → m ≡ n → made a m ≡ made b n
same_numbers made a b m n x y = ap (λ k. made k m) x ∙ ap (made b) y

pub none_read : (level : ℕ) (seen : Seen)
    → ReadsElements Whole level [] (record { elements = seen.elements; bytes = seen.bytes }) (record { elements = seen.elements; bytes = seen.bytes }) (Ok [])
none_read level seen = (refl, refl, same_numbers (λ n m. record { elements = n; bytes = m }) seen.elements (seen.elements + 0) seen.bytes (seen.bytes + 0) (omega arith) (omega arith))

-- ---- where more bytes were counted before

same_fault : (place bytes more : ℕ) (element : Element) → bytes + more ≤ most_bytes
    → fault_of Whole place (bytes + more) element ≡ fault_of Whole place bytes element
unfolding fault_of
same_fault place bytes more element few =
    let less : bytes ≤ most_bytes = omega (arith, few) in
    let same : nat_lt most_bytes (bytes + more) ≡ nat_lt most_bytes bytes = le-ltb most_bytes (bytes + more) few ∙ sym (le-ltb most_bytes bytes less) in
    rw same refl

same_faults : (count bytes more : ℕ) (list : List Element) → bytes + more + sum_by (λ e. bytes_held e.value) list ≤ most_bytes
    → first_fault_after Whole count (bytes + more) list ≡ first_fault_after Whole count bytes list
same_faults count bytes more [] few = refl
same_faults count bytes more (element ∷ list) few =
    let held = bytes_held element.value in
    let sum = sum_by-cons (λ (e : Element). bytes_held e.value) element list in
    let moved : bytes + more + held ≡ bytes + held + more = omega arith in
    let own : bytes + held + more ≤ most_bytes = omega (arith, sum, few) in
    let rest : bytes + held + more + sum_by (λ e. bytes_held e.value) list ≤ most_bytes = omega (arith, sum, few) in
    ap (λ n. option_or (option_map (fault_at (count + 1)) (fault_of Whole (count + 1) n element)) (first_fault_after Whole (count + 1) n list)) moved
    ∙ ap (λ found. option_or (option_map (fault_at (count + 1)) found) (first_fault_after Whole (count + 1) (bytes + held + more) list)) (same_fault (count + 1) (bytes + held) more element own)
    ∙ ap (option_or (option_map (fault_at (count + 1)) (fault_of Whole (count + 1) (bytes + held) element))) (same_faults (count + 1) (bytes + held) more list rest)

moved : (level more : ℕ) (values : List Data) (nodes : List Node) (seen now : Seen) → now.bytes + more ≤ most_bytes
    → ReadsElements Whole level values (record { elements = seen.elements; bytes = seen.bytes }) (record { elements = now.elements; bytes = now.bytes }) (Ok nodes)
    → ReadsElements Whole level values (record { elements = seen.elements; bytes = seen.bytes + more }) (record { elements = now.elements; bytes = now.bytes + more }) (Ok nodes)
moved level more values nodes seen now few read =
    let list = flat_map (elements level) values in
    let count : now.elements ≡ seen.elements + length list = ap (λ s. s.elements) read.2 in
    let bytes : now.bytes ≡ seen.bytes + sum_by (λ e. bytes_held e.value) list = ap (λ s. s.bytes) read.2 in (
      same_faults seen.elements seen.bytes more list (omega (arith, bytes, few)) ∙ read.0,
      read.1,
      same_numbers (λ n m. record { elements = n; bytes = m }) now.elements (seen.elements + length list) (now.bytes + more)
          (seen.bytes + more + sum_by (λ e. bytes_held e.value) list) count (omega (arith, bytes)),
    )

-- ---- children, if there are any

pub have_read : (level : ℕ) (items : Option Items) (seen now : Seen) (nodes : Option (List Node)) → HaveRead level items seen now nodes
    → ReadsElements Whole level (listed_items (unwrap_or items no_items)) (record { elements = seen.elements; bytes = seen.bytes })
    (record { elements = now.elements; bytes = now.bytes }) (Ok (unwrap_or nodes []))
have_read level None seen now None same =
    subst (λ (s : Seen). ReadsElements Whole level [] (record { elements = seen.elements; bytes = seen.bytes }) (record { elements = s.elements; bytes = s.bytes }) (Ok []))
    (sym same) (none_read level seen)
have_read level None seen now (Some nodes) never = absurd never
have_read level (Some items) seen now None never = absurd never
have_read level (Some items) seen now (Some nodes) read = read.0

pub in_order : (level : ℕ) (items : Option Items) (seen now : Seen) (nodes : Option (List Node)) → HaveRead level items seen now nodes
    → AreOrderedAt level (unwrap_or nodes [])
in_order level None seen now None same = tt
in_order level None seen now (Some nodes) never = absurd never
in_order level (Some items) seen now None never = absurd never
in_order level (Some items) seen now (Some nodes) read = read.1

may_have : (level : ℕ) (kind : Kind) (items : Option Items) (seen now : Seen) (nodes : Option (List Node)) → HaveRead level items seen now nodes
    → (is_text_kind kind ≡ true → nodes ≡ None) → MayHave kind items
may_have level kind None seen now nodes read plain = tt
may_have level kind (Some items) seen now None never plain = absurd never
may_have level kind (Some items) seen now (Some nodes) read plain =
    false_from_ne_true (is_text_kind kind) (λ yes. none-some nodes (sym (plain yes)))

-- ---- the element

abbrev pub head_at : ℕ → List ℕ → Option (List Attribute) → Option (List ℕ) → Head
head_at id name attributes text = record {
  id = record { 0 = id };
  name = name;
  kind = kind_of name;
  attributes = unwrap_or attributes [];
  text = unwrap_or text [];
}

module _ (level : ℕ) (seen : Seen) (name : List ℕ) (all : Option Members) (text : Option (List ℕ)) (items : Option Items) (nodes : Option (List Node))
    (levels : level ≤ most_levels) (room : seen.elements + 1 ≤ most_elements) (named : is_name name ≡ true)
    (placed : is_misplaced Whole (seen.elements + 1) name ≡ false) (formed : option_map_or are_attributes all true ≡ true)
    (short : option_map_or is_short_enough text true ≡ true) (fits : is_text_kind (kind_of name) ≡ false → unwrap_or text [] ≡ [])
    (plain : is_text_kind (kind_of name) ≡ true → nodes ≡ None) where
  abbrev pub whole : Data
  whole = object (members_of (Some name) all text items)

  abbrev pub head : Head
  head = head_at (seen.elements + 1) name (option_map attributes_of all) text

  name_is : name_in whole ≡ name
  name_is = name_said name all text items

  kind_is : kind_in whole ≡ kind_of name
  unfolding kind_in
  kind_is = ap kind_of name_is

  attributes_are : attributes_held whole ≡ unwrap_or (option_map attributes_of all) []
  unfolding attributes_held
  attributes_are = ap (λ found. option_map_or attributes_of found []) (attributes_said name all text items) ∙ mapped_or all

  text_is : text_held whole ≡ unwrap_or text []
  unfolding text_held
  text_is =
      ap (λ kind. cond (is_text_kind kind) (unwrap_or (text_in whole) []) []) kind_is
      ∙ ap (λ found. cond (is_text_kind (kind_of name)) (unwrap_or found []) []) (text_said name all text items)
      ∙ text_kept (kind_of name) (unwrap_or text []) fits

  pub bytes_are : bytes_held whole ≡ length head.name + length head.text + bytes_of_attributes head.attributes
  unfolding bytes_held
  bytes_are = rw (name_is, text_is, attributes_are) refl

  has_its_attributes : has_attributes whole ≡ true
  unfolding has_attributes
  has_its_attributes = rw (get_attributes name all text items) (all_attributes all formed)

  has_its_text : has_text whole ≡ true
  unfolding has_text
  has_its_text = rw (text_said name all text items, kind_is) (text_passes (kind_of name) (unwrap_or text []) (short_or text short) fits)

  has_its_children : MayHave (kind_of name) items → has_children whole ≡ true
  unfolding has_children
  has_its_children may = rw (children_said name all text items, kind_is) (may_pass (kind_of name) items may)

  no_fault : (bytes : ℕ) → bytes ≤ most_bytes → MayHave (kind_of name) items
      → fault_of Whole (seen.elements + 1) bytes (record { level = level; value = whole }) ≡ None
  no_fault bytes few may =
      none_of_all (seen.elements + 1) bytes level whole levels room refl (keys_said name all text items) (rw name_is named) (rw name_is placed)
      has_its_attributes has_its_text (has_its_children may) few

  head_is : head ≡ head_of (seen.elements + 1) whole
  head_is = rw (name_is, kind_is, attributes_are, text_is) refl

  below_is : below whole ≡ listed_items (unwrap_or items no_items)
  below_is = ap (λ found. option_map_or listed_items found []) (children_said name all text items)

  pub means : (first then after : Seen) → HaveRead (level + 1) items first then nodes
      → first.elements ≡ seen.elements + 1 → first.bytes ≡ seen.bytes → after.elements ≡ then.elements
      → after.bytes ≡ then.bytes + bytes_held whole → after.bytes ≤ most_bytes
      → ReadsElement Whole level whole
      (record { elements = seen.elements; bytes = seen.bytes }) (record { elements = after.elements; bytes = after.bytes }) (Ok (node head (unwrap_or nodes [])))
  means first then after read first_is bytes count counted few =
      let held = bytes_held whole in
      let still : then.bytes + held ≤ most_bytes = omega (arith, counted, few) in
      let list = flat_map (elements (level + 1)) (listed_items (unwrap_or items no_items)) in
      let inside = have_read (level + 1) items first then nodes read in
      let more : then.bytes ≡ first.bytes + sum_by (λ e. bytes_held e.value) list = ap (λ s. s.bytes) inside.2 in
      let own : seen.bytes + held ≤ most_bytes = omega (arith, more, bytes, still) in
      let lower = moved (level + 1) held (listed_items (unwrap_or items no_items)) (unwrap_or nodes []) first then still inside in
      let shown : ReadsElements Whole (level + 1) (below whole) (record { elements = seen.elements + 1; bytes = seen.bytes + held })
      (record { elements = after.elements; bytes = after.bytes }) (Ok (unwrap_or nodes [])) =
      rw (below_is, ← first_is, ← bytes, count, counted) lower in
      rw head_is (whole_part Whole (record { elements = seen.elements; bytes = seen.bytes }) level whole
      (record { elements = after.elements; bytes = after.bytes }) (unwrap_or nodes []) (no_fault (seen.bytes + held) own (may_have (level + 1) (kind_of name) items first then nodes read plain)) shown)
