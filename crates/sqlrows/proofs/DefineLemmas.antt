-- Texts that make tables and indexes, one after another in a transaction.
use Rattle.std.proofs.Common.{◌≡◌, ◌⊎◌, ◌<◌, ◌+◌, inl, inr, ℕ, Bor, List, [], ◌∷◌, map, drop, length, get_or, drop-cons, add-one, true, Ok, refl, sym, subst, ◌∙◌}
use Rattle.sqlrows.proofs.Words.{command_of, DefinesAll, Executes, HasCleanDisk, IsBlank, IsUndone, LeavesOnly, Schema, State, StaysOpen}
use Rattle.sqlrows.proofs.{Words.{StaysOrUndoes, Survives, understood, writes_tables}, CreateLemmas.{blank_then, definition_writes}}

module _ (a b c : State) (first : StaysOpen a b) where
  pub stays_then : StaysOpen b c → StaysOpen a c
  stays_then second = record {
    shown = record { was_open = first.shown.was_open; is_open = second.shown.is_open; now_is = refl; committed_is = second.shown.committed_is ∙ first.shown.committed_is; mode = second.shown.mode };
    marks = second.marks ∙ first.marks;
  }

  -- an error in a later text
  pub stands_then : StaysOrUndoes b c → StaysOpen a c ⊎ IsUndone a c
  stands_then (inl same) = inl (record {
    shown = record { was_open = first.shown.was_open; is_open = same.0.is_open; now_is = refl; committed_is = same.0.committed_is ∙ first.shown.committed_is; mode = same.0.mode ∙ first.shown.mode };
    marks = same.2 ∙ first.marks;
  })
  stands_then (inr back) = inr (record {
    undone = λ is_open. let it = back.undone is_open in (it.0 ∙ first.shown.committed_is, it.1 ∙ first.shown.committed_is);
    autocommit = back.autocommit;
  })

pub leaves_no_more : (a b c : State) → LeavesOnly a b (λ _. ⊥) → Survives b c (λ _. ⊥) → HasCleanDisk c → LeavesOnly a c (λ _. ⊥)
leaves_no_more a b c first second clean db left = elim (second.crash clean db left) [ inl before ↦ first db before | inr none ↦ absurd none ]

-- a database on the way to a schema, which these texts make of it
abbrev pub Leads : State → List (List ℕ) → Schema → Type 0
Leads s texts to = (next : Schema) × DefinesAll next texts to × IsBlank next s.now

-- the text at a place, before those that follow
abbrev pub text_at : List (Bor (List ℕ)) → ℕ → List ℕ
text_at texts i = (get_or texts i (record { ref_ptr = (0, 0); now = [] })).now

abbrev pub texts_from : List (Bor (List ℕ)) → ℕ → List (List ℕ)
texts_from texts i = map (λ (t : Bor (List ℕ)). t.now) (drop i texts)

pub leads_next : (s : State) (to : Schema) (texts : List (Bor (List ℕ))) (i : ℕ) → i < length texts → Leads s (texts_from texts i) to → Leads s (text_at texts i ∷ texts_from texts (i + 1)) to
leads_next s to texts i short at =
    let none : Bor (List ℕ) = record { ref_ptr = (0, 0); now = [] } in
    let split : drop i texts ≡ get_or texts i none ∷ drop (i + 1) texts = rw add-one (drop-cons texts i none short) in
    subst (λ l. Leads s (map (λ (t : Bor (List ℕ)). t.now) l) to) split at

module _ (b c : State) (text : List ℕ) (texts : List (List ℕ)) (to : Schema) (at : Leads b (text ∷ texts) to) where
  pub writes_next : writes_tables (command_of (understood b.now.schema text)) ≡ true
  writes_next = subst (λ s. writes_tables (command_of (understood s text)) ≡ true) (sym at.2.is) (definition_writes at.0 at.1.0 text at.1.1)

  pub leads_on : (count : ℕ) → Executes text [] b c (Ok count) → Leads c texts to
  leads_on count ran = (at.1.0, at.1.2, blank_then at.0 at.1.0 text b c count at.1.1 at.2 ran)
