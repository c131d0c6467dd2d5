-- What an edit leaves of records in ordered maps.
use Rattle.std.proofs.Common.{◌≡◌, ℕ, [], Bool, true, refl, sym, ap, ◌∙◌, if◌then◌else◌}
use Rattle.mapbook.proofs.{Words.{account_opened, get, is_some, leaves-refl, readiness_if_used, Stored, Writes}, PostingLemmas.opened-same}
use Rattle.books.specs.Records.{RecordsState}

-- in memory: what is in the maps, where going back leads, whether a transaction is open, and whether one was kept
abbrev pub in_memory : Stored → Stored → Bool → Bool → RecordsState
in_memory h f b u = record {
  content = if b then h else f;
  before = f;
  is_open = b;
  is_clean = true;
  is_honest = true;
  readiness = readiness_if_used u;
  crash_leaves = [];
}

-- nothing is to be done
already : (change : Stored → Stored) (h f : Stored) (a u : Bool) → a ≡ true → h ≡ change h → Writes (change (in_memory h f a u).content) (in_memory h f a u) (in_memory h f a u)
already change h f a u was same = record {
  clean = λ c. refl;
  before = λ c. refl;
  opened = was;
  content = λ c. ap (λ (x : Bool). if x then h else f) was ∙ same ∙ ap (λ (x : Bool). change (if x then h else f)) (sym was);
  answers = λ was. was;
  leaves = leaves-refl (in_memory h f a u);
}

pub opens-same : (r : ℕ) (h f : Stored) (a u : Bool) → a ≡ true → is_some (get h.registry.accounts r) ≡ true → Writes (account_opened r (in_memory h f a u).content) (in_memory h f a u) (in_memory h f a u)
opens-same r h f a u was there = already (account_opened r) h f a u was (opened-same r h there)
