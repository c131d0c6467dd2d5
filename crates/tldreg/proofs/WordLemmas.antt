-- Words that ask to serve.
use Rattle.std.proofs.Common.{◌≡◌, ℕ, List, [], ◌∷◌, codes, string_bytes, sym, ap, ◌∙◌, get_or, nat_eq, true, false, refl, eq-eqb}
use Rattle.std.specs.Str.Parse.{digits_value, without_leading_plus}
use Rattle.tldreg.specs.declared.command_line.{Job.{Job, TheVariants.{Serve, ServeBoth, Zone, Deposit, Order}}, Task.Task}
use Rattle.tldreg.specs.declared.command_line.Task.TheVariants.{Help, Version, Run, Migrate, OnDatabase}
use Rattle.tldreg.specs.inner.Words.{AsksServing, AsksTask, IsPort}

same_port : (word other : List ℕ) (port served : ℕ) → word ≡ other → IsPort word port → IsPort other served → served ≡ port
same_port word other port served same is asks = sym asks.1 ∙ ap (λ w. digits_value 10 (without_leading_plus w)) (sym same) ∙ is.1

-- equal words begin with the same byte
first : (word other : List ℕ) {words others : List (List ℕ)} → word ∷ words ≡ other ∷ others → get_or word 0 0 ≡ get_or other 0 0
first word other {words} {others} same =
    let is : word ≡ other = cc in
    ap (λ (w : List ℕ). get_or w 0 0) is

-- words that begin with different bytes aren't equal
apart : (word other : List ℕ) {words others : List (List ℕ)} → word ∷ words ≡ other ∷ others → nat_eq (get_or word 0 0) (get_or other 0 0) ≡ false → ⊥
apart word other {words} {others} same differ =
    let equal : nat_eq (get_or word 0 0) (get_or other 0 0) ≡ true = eq-eqb (get_or word 0 0) (get_or other 0 0) (first word other same) in
    cc

-- what is left behind a port asks for no task, where it asks for no job
pub no_serving : (policy database word : List ℕ) (port : ℕ) (rest : List (List ℕ)) → IsPort word port → ((job : Job) → ¬ (AsksServing port rest job)) → (task : Task)
    → ¬ (AsksTask (codes "serve" ∷ policy ∷ database ∷ word ∷ rest) task)
no_serving policy database word port rest is none Help asks = apart (codes "serve") (codes "--help") asks refl
no_serving policy database word port rest is none Version asks = apart (codes "serve") (codes "--version") asks refl
no_serving policy database word port rest is none (Run p) asks = apart (codes "serve") (codes "run") asks refl
no_serving policy database word port rest is none (Migrate p from to) asks = apart (codes "serve") (codes "migrate") asks refl
no_serving policy database word port rest is none (OnDatabase p d (Serve served)) asks =
    let same : word ≡ asks.0 = cc in
    let empty : rest ≡ [] = cc in
    none (Serve served) (empty, same_port word asks.0 port served same is asks.2)
no_serving policy database word port rest is none (OnDatabase p d (ServeBoth served operator_port token_file)) asks =
    let same : word ≡ asks.0 = cc in
    let two : rest ≡ asks.1 ∷ string_bytes token_file ∷ [] = cc in
    none (ServeBoth served operator_port token_file) (asks.1, two, asks.4, same_port word asks.0 port served same is asks.3)
no_serving policy database word port rest is none (OnDatabase p d (Zone moment)) asks = apart (codes "serve") (codes "zone") asks.1 refl
no_serving policy database word port rest is none (OnDatabase p d (Deposit moment registrar cents)) asks = apart (codes "serve") (codes "deposit") asks.2 refl
no_serving policy database word port rest is none (OnDatabase p d (Order moment json)) asks = apart (codes "serve") (codes "order") asks.1 refl
