-- A row that alone answers a question.
use Rattle.std.proofs.Common.{◌≡◌, Bool, true, false, ℕ, ℤ, List, [], ◌∷◌, map, filter, refl, sym, ap, subst, ◌∙◌, arith}
use Rattle.std.proofs.lemmas.List.Sorted.{IsPermutation-refl}
use Rattle.sqltables.proofs.Words.{account_shown, account_with_id, AccountRow, accounts, all_of, at_ints, Content, end, Env, Eq}
use Rattle.sqltables.proofs.Words.{eval_all, filter_all, Holds, holds, inner, Int, IsAnswer, IsAnsweredByRows, IsContent, IsSelect, last_term}
use Rattle.sqltables.proofs.Words.{Layout, list_all, matches_as, meta_shown, MetaRow, metas, Null, Output, output, overlay, overlay_none}
use Rattle.sqltables.proofs.{Words.{registry, Row, select_query, Term, Trees}, AnswerLemmas.asked-by}
use Rattle.sqltables.proofs.{QueryLemmas.{select_account, select_metas}, StatementLemmas.{all_columns, equals}}
use Rattle.sqlite_typed.proofs.AnswerLemmas.{at_end, last_table, matches_are}
use Rattle.sqltables.specs.declared.account.TheConstants as account_texts
use Rattle.sqltables.specs.declared.meta.TheConstants as meta_texts

module _ {X : Type 0} (L : Layout X) (filters project : List Term) (params : Row) (p : X → Bool) (shown : X → Row)
    (tests : (x : X) → list_all (holds (params ∷ L.to_row x ∷ [])) filters ≡ p x)
    (shows : (x : X) → eval_all project (params ∷ L.to_row x ∷ []) ≡ shown x) where
  -- the one row that passes is what the query gives
  only : (db : Trees) (xs : List X) (x : X) → Holds L db xs → filter p xs ≡ x ∷ [] → IsAnswer (select_query L.tree filters project) (overlay db []) params (shown x ∷ [])
  only db xs x h alone =
      let q = select_query L.tree filters project in
      let stored : overlay db [] L.tree ≡ map L.to_row xs = overlay_none db L.tree ∙ h.rows in
      let source = last_table (overlay db []) L.tree L.to_row L.key xs stored h.keyed (at_end (overlay db [])) in
      let env : Env = params ∷ L.to_row x ∷ [] in
      let matched : matches_as Null (overlay db []) filters (inner L.tree end) (params ∷ []) ≡ env ∷ [] =
      matches_are q (overlay db []) params source p tests ∙ ap (map (λ (a : X). params ∷ L.to_row a ∷ [])) alone in
      let out : Output = output q env in
      record {
        staged = env ∷ [];
        grouped = sym matched;
        kept = out ∷ [];
        distinct = refl;
        ordered = out ∷ [];
        same = IsPermutation-refl (out ∷ []);
        sorted = λ k d low high. absurd (omega (arith, high));
        shown = ap (λ (r : Row). r ∷ []) (sym (shows x));
      }

  -- and so the answer to the text
  pub answered-only : (sql : List ℕ) → IsSelect registry sql (select_query L.tree filters project) → (db : Trees) (xs : List X) (x : X) → Holds L db xs → filter p xs ≡ x ∷ [] → IsAnsweredByRows db sql params (shown x ∷ [])
  answered-only sql is db xs x h alone query asked =
      subst (λ q. IsAnswer q (overlay db []) params (shown x ∷ [])) (ap (asked-by query) (sym is.command ∙ asked.command)) (only db xs x h alone)

pub account-known : (v : ℤ) (row : AccountRow) (db : Trees) (xs : Content) → IsContent xs (record { schema = registry; trees = db }) → filter (account_with_id v) xs.accounts ≡ row ∷ []
    → IsAnsweredByRows db account_texts.BY_ID.now (Int v ∷ []) (account_shown row ∷ [])
account-known v row db xs h alone =
    answered-only accounts (equals 0 0 ∷ []) (all_columns 7) (Int v ∷ []) (account_with_id v) account_shown (λ x. last_term (at_ints false Eq x.id v)) (λ x. refl) account_texts.BY_ID.now select_account db xs.accounts row h.accounts alone

pub meta-known : (row : MetaRow) (db : Trees) (xs : Content) → IsContent xs (record { schema = registry; trees = db }) → xs.metas ≡ row ∷ [] → IsAnsweredByRows db meta_texts.ALL.now [] (meta_shown row ∷ [])
meta-known row db xs h alone =
    answered-only metas [] (all_columns 16) [] (λ _. true) meta_shown (λ x. refl) (λ x. refl) meta_texts.ALL.now select_metas db xs.metas row h.metas
    (filter_all (λ _. true) xs.metas (all_of _ (λ x. refl) xs.metas) ∙ alone)
