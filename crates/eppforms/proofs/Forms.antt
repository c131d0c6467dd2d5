-- Which form is chosen hangs on what chooses it alone.
use Rattle.std.proofs.Common.{◌≡◌, ℕ, Bool, true, false, cond, List, [], ◌∷◌, map, Option, Some, None, option_map, Result, refl, ap}
use Rattle.std.specs.{Prelude.{◌&&◌, ◌||◌, bytes_eq, is_some, not}, Option.ok_or, Result.result_map_both}
use Rattle.serde_json.specs.Data.{Data}
use Rattle.protocol.specs.declared.form.FormFault.{FormFault, TheVariants.{SyntaxError, UnknownCommand}}
use Rattle.eppforms.specs.declared.member.Member.TheVariants as members
use Rattle.eppforms.specs.{declared.table.Choice.Choice, Member.word_at, Table.verb_text}
use Rattle.eppforms.specs.Form.{◌>>=◌, refuse_unless, is_known, takes_object, is_chosen, chosen, form_in}

abbrev pub with_members : {M N : Type 0} → (M → N) → Choice × M → Choice × N
with_members g form = (form.0, g form.1)

known_of : {M N : Type 0} (g : M → N) (forms : List (Choice × M)) (cmd : List ℕ) → is_known (map (with_members g) forms) cmd ≡ is_known forms cmd
known_of g [] cmd = refl
known_of g (form ∷ forms) cmd = ap (λ (b : Bool). bytes_eq (verb_text form.0.cmd) cmd || b) (known_of g forms cmd)

takes_of : {M N : Type 0} (g : M → N) (forms : List (Choice × M)) (cmd : List ℕ) → takes_object (map (with_members g) forms) cmd ≡ takes_object forms cmd
takes_of g [] cmd = refl
takes_of g (form ∷ forms) cmd = ap (λ (b : Bool). (bytes_eq (verb_text form.0.cmd) cmd && is_some form.0.object) || b) (takes_of g forms cmd)

first_of : {A B : Type 0} (f : A → B) (b : Bool) (x : A) (rest : Option A) (others : Option B) → others ≡ option_map f rest
    → cond b (Some (f x)) others ≡ option_map f (cond b (Some x) rest)
first_of f true x rest others e = refl
first_of f false x rest others e = e

chosen_of : {M N : Type 0} (g : M → N) (forms : List (Choice × M)) (cmd : List ℕ) (obj op : Option (List ℕ))
    → chosen (map (with_members g) forms) cmd obj op ≡ option_map (with_members g) (chosen forms cmd obj op)
chosen_of g [] cmd obj op = refl
chosen_of g (form ∷ forms) cmd obj op =
    first_of (with_members g) (is_chosen form.0 cmd obj op) form (chosen forms cmd obj op) _ (chosen_of g forms cmd obj op)

abbrev steps : {A : Type 0} → Bool → Bool → Option A → Result A FormFault
steps known fits found = refuse_unless known UnknownCommand >>= (λ _. refuse_unless fits SyntaxError >>= (λ _. ok_or found UnknownCommand))

steps_of : {A B : Type 0} (f : A → B) (known fits : Bool) (found : Option A) → steps known fits (option_map f found) ≡ result_map_both f (λ code. code) (steps known fits found)
steps_of f true true (Some x) = refl
steps_of f true true None = refl
steps_of f true false found = refl
steps_of f false fits found = refl

abbrev found_at : {M : Type 0} → List (Choice × M) → Option (List ℕ) → Option (List ℕ) → Option (List ℕ) → Result (Choice × M) FormFault
found_at forms cmd obj op =
    ok_or cmd SyntaxError >>= (λ c. steps (is_known forms c) (not (takes_object forms c) || is_some obj) (chosen forms c obj op))

found_at_of : {M N : Type 0} (g : M → N) (forms : List (Choice × M)) (cmd obj op : Option (List ℕ))
    → found_at (map (with_members g) forms) cmd obj op ≡ result_map_both (with_members g) (λ code. code) (found_at forms cmd obj op)
found_at_of g forms None obj op = refl
found_at_of g forms (Some cmd) obj op =
    rw (known_of g forms cmd, takes_of g forms cmd, chosen_of g forms cmd obj op)
    (steps_of (with_members g) (is_known forms cmd) (not (takes_object forms cmd) || is_some obj) (chosen forms cmd obj op))

pub form_in_of : {M N : Type 0} (g : M → N) (forms : List (Choice × M)) (d : Data)
    → form_in (map (with_members g) forms) d ≡ result_map_both (with_members g) (λ code. code) (form_in forms d)
unfolding form_in
form_in_of g forms d = found_at_of g forms (word_at members.Cmd d) (word_at members.Obj d) (word_at members.Op d)
