-- A payload that reads as JSON, and one that doesn't.
use Rattle.std.proofs.Common.{◌≡◌, ℕ, Bool, true, false, cond, Some, None, List, refl, ap, ◌∙◌}
use Rattle.std.proofs.lemmas.Str.{IsUtf8-from_is_utf8, is_utf8-from_IsUtf8}
use Rattle.std.specs.{Prelude.{IsUtf8, option_and_then}, Str.is_utf8}
use Rattle.serde_json.specs.{Data.Data, Read.read}
use Rattle.eppcommands.specs.{Command.payload_value, Order.{order_in, order_of_data}}

pub well_read : (payload : List ℕ) (d : Data) → IsUtf8 payload → read payload ≡ Some d → payload_value payload ≡ Some d
well_read payload d text found = ap (λ (b : Bool). cond b (read payload) None) (is_utf8-from_IsUtf8 payload text) ∙ found

none_read : (payload : List ℕ) (b : Bool) → is_utf8 payload ≡ b → (IsUtf8 payload → read payload ≡ None) → cond b (read payload) None ≡ None
none_read payload true e none = none (IsUtf8-from_is_utf8 payload e)
none_read payload false e none = refl

pub not_read : (payload : List ℕ) → (IsUtf8 payload → read payload ≡ None) → payload_value payload ≡ None
not_read payload none = none_read payload (is_utf8 payload) refl none

-- the same of the operator's
pub order_read : (payload : List ℕ) (d : Data) → IsUtf8 payload → read payload ≡ Some d → order_in payload ≡ order_of_data d
order_read payload d text found =
    ap (λ (b : Bool). option_and_then order_of_data (cond b (read payload) None)) (is_utf8-from_IsUtf8 payload text) ∙ ap (option_and_then order_of_data) found

pub no_order_read : (payload : List ℕ) → (IsUtf8 payload → read payload ≡ None) → order_in payload ≡ None
no_order_read payload none = ap (option_and_then order_of_data) (none_read payload (is_utf8 payload) refl none)
