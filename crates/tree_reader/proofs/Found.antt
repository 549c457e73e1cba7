-- What was found, said in other words.
use Rattle.std.proofs.Common.{◌≡◌, ℕ, List, Option, Some, None, Result, Ok, Err}
use Rattle.std.specs.Prelude.{IfOk, IfSome, IsUtf8}
use Rattle.std.proofs.lemmas.Str.{is_utf8-from_IsUtf8}
use Rattle.serde_json.specs.Data.{Data}
use Rattle.serde_json.specs.Read.{read}
use Rattle.tree_edits.specs.Commands.{json_in}

-- where each item that has one property has another, so does one that is found
pub found_too : {X : Type 0} (P Q : X → Type 0) → ((x : X) → P x → Q x) → (found : Option X) → IfSome found P → IfSome found Q
found_too P Q f None h = tt
found_too P Q f (Some x) h = f x h

pub given_too : {X E : Type 0} (P Q : X → Type 0) → ((x : X) → P x → Q x) → (given : Result X E) → IfOk given P → IfOk given Q
given_too P Q f (Ok x) h = f x h
given_too P Q f (Err e) h = tt

-- the value of a text is the one of its bytes
pub json_of_text : (bytes : List ℕ) (value : Data) → IsUtf8 bytes → read bytes ≡ Some value → json_in bytes ≡ Some value
json_of_text bytes value text is = rw (is_utf8-from_IsUtf8 bytes text) is
