-- A sound database that lies in order holds the rows that it decodes to.
use Rattle.std.proofs.Common.{◌≡◌, ℕ, zero, suc, ◌+◌, ◌<◌, ℤ, ◌<ℤ◌, ◌&&◌, ◌||◌, Bool, true, false, not, if◌then◌else◌, List, [], ◌∷◌, map, drop, Some, Less, IsTrue, refl, sym, ap, ap₂, subst, subst₂, ◌∙◌, arith, ◌==◌, true≢false}
use Rattle.std.proofs.lemmas.{Bool.Decides.nat_tests, List.drop-drop}
use Rattle.sqltables.proofs.Words.{account, accounts, address, addresses, all_both, all_map, AllByRecursion, and_parts, Blob, bytes_of, column}
use Rattle.sqltables.proofs.Words.{contact, contacts, contents, Database, domain, domains, Holds, host, hosts, id_column, Int, int_of, is_int}
use Rattle.sqltables.proofs.Words.{is_null, IsContent, IsDatabase, IsInOrder, IsKeyedBy, IsShaped, IsSound, Layout, line, lines, link, links}
use Rattle.sqltables.proofs.Words.{list_all, lt_from_Less, message, messages, meta, metas, Null, or_null, Real, registry, Row, rowid, Table, Text}
use Rattle.sqltables.proofs.Words.{transfer, transfers, Trees, unless_null, Value, value_cmp, value_cmp-Int}
use Rattle.sqlite_trees.specs.declared.store.Shape.TheVariants as shape
use Rattle.sqlite_trees.specs.Tree.{IsTable}
use Rattle.sqlite_schema.specs.declared.schema.{Column.Column, Constraint.TheVariants.{Datatype, NotNull}, Kind.Kind, Schema.Schema}
use Rattle.sqlite_schema.specs.Rules.{are_present, are_typed, is_of}
use Rattle.sqlite_schema.specs.declared.schema.Kind.TheVariants as kind
use Rattle.sqltables.specs.Tables.{days}
use Rattle.sqltables.specs.Decoding.{meta_in, account_in, contact_in, domain_in, host_in, address_in, link_in, line_in, message_in, transfer_in, day_in}
use Rattle.sqltables.specs.Day as day_table

-- ---- a value

-- read as its column's type, and written again
abbrev restored : Kind → Bool → Value → Value
restored kind.Integer true v = Int (int_of v)
restored kind.Integer false v = or_null Int (unless_null int_of v)
restored kind.Text true v = Text (bytes_of v)
restored kind.Text false v = or_null Text (unless_null bytes_of v)
restored kind.Blob true v = Blob (bytes_of v)
restored kind.Blob false v = or_null Blob (unless_null bytes_of v)
restored kind.Real filled v = v
restored kind.Any filled v = v

same_value : (k : Kind) (filled : Bool) (v : Value) → is_of k v ≡ true → (filled ≡ true → is_null v ≡ false) → restored k filled v ≡ v
same_value k filled v h some = grind arith

-- ---- the columns after the key's

abbrev restored_all : List Column → ℕ → Row → Row
restored_all [] at r = []
restored_all (c ∷ cs) at r = restored c.kind c.not_null (column r (at + 1)) ∷ restored_all cs (at + 1) r

-- the last column is NOT NULL
abbrev ends_filled : Bool → List Column → Bool
ends_filled last [] = last
ends_filled last (c ∷ cs) = ends_filled c.not_null cs

later-ends : (last : Bool) (cs : List Column) → ends_filled last cs ≡ true → ends_filled true cs ≡ true
later-ends last [] h = refl
later-ends last (c ∷ cs) h = h

at_front : (r : Row) (at : ℕ) → column r at ≡ column (drop at r) 0
at_front [] zero = refl
at_front [] (suc at) = refl
at_front (v ∷ r) zero = refl
at_front (v ∷ r) (suc at) = at_front r at

one_more : (r : Row) (at : ℕ) → drop (at + 1) r ≡ drop 1 (drop at r)
one_more r at = sym (drop-drop 1 at r)

step : (r vs : Row) (at : ℕ) → drop at r ≡ vs → (column r at ≡ column vs 0) × (drop (at + 1) r ≡ drop 1 vs)
step r vs at e = (at_front r at ∙ ap (λ (ws : Row). column ws 0) e, one_more r at ∙ ap (λ (ws : Row). drop 1 ws) e)

beyond_key : (at : ℕ) → 0 < at → (0 == at) ≡ false
beyond_key at h = grind (arith, nat_tests, h)

not-null-if : (key filled null : Bool) → key ≡ false → (key || not filled || not null) ≡ true → filled ≡ true → null ≡ false
not-null-if key filled null e h is = grind arith

else-if : (key a b : Bool) → key ≡ false → (if key then a else b) ≡ true → b ≡ true
else-if key a b e h = grind arith

then-if : (key a b : Bool) → key ≡ true → (if key then a else b) ≡ true → a ≡ true
then-if key a b e h = grind arith

-- a row that ends before a column is NULL there
not_short : (c : Column) (cs : List Column) (at : ℕ) (r : Row) → 0 < at → drop (at + 1) r ≡ [] → ends_filled c.not_null cs ≡ true → are_present (Some 0) at (c ∷ cs) r ≡ true → ⊥
not_short c [] at r after e ends h =
    let null : is_null (column r (at + 1)) ≡ true = ap is_null (step r [] (at + 1) e).0 in
    true≢false (sym null ∙ not-null-if (0 == at) c.not_null (is_null (column r (at + 1))) (beyond_key at after) (and_parts _ _ h).0 ends)
not_short c (d ∷ cs) at r after e ends h = not_short d cs (at + 1) r (omega (arith, after)) (step r [] (at + 1) e).1 ends (and_parts _ _ h).1

same_values : (cs : List Column) (at : ℕ) (r vs : Row) → 0 < at → list_all (λ (c : Column). c.is_strict) cs ≡ true → ends_filled true cs ≡ true
    → are_typed (Some 0) at cs vs ≡ true → are_present (Some 0) at cs r ≡ true → drop (at + 1) r ≡ vs → restored_all cs at r ≡ vs
same_values [] at r [] after strict ends typed present e = refl
same_values [] at r (v ∷ vs) after strict ends typed present e = absurd (true≢false (sym typed))
same_values (c ∷ cs) at r [] after strict ends typed present e = absurd (not_short c cs at r after e ends present)
same_values (c ∷ cs) at r (v ∷ vs) after strict ends typed present e =
    let s = and_parts _ _ strict in
    let t = and_parts _ _ typed in
    let p = and_parts _ _ present in
    let here = step r (v ∷ vs) (at + 1) e in
    let suited = then-if c.is_strict _ _ s.0 (else-if (0 == at) _ _ (beyond_key at after) t.0) in
    ap₂ ◌∷◌
    (ap (restored c.kind c.not_null) here.0 ∙ same_value c.kind c.not_null v suited (λ filled. sym (ap is_null here.0) ∙ not-null-if (0 == at) c.not_null (is_null (column r (at + 1))) (beyond_key at after) p.0 filled))
    (same_values cs (at + 1) r vs (omega (arith, after)) s.1 (later-ends c.not_null cs ends) t.1 p.1 here.1)

-- ---- a row

null-is : (v : Value) → is_null v ≡ true → v ≡ Null
null-is v h = grind arith

int-is : (v : Value) → IsTrue (is_int v) → Int (int_of v) ≡ v
int-is v h = grind arith

abbrev IsTyped : List Column → Row → Type 0
IsTyped cs r = (are_typed (Some 0) 0 (id_column ∷ cs) (drop 1 r) && true) ≡ true

abbrev IsPresent : List Column → Row → Type 0
IsPresent cs r = are_present (Some 0) 0 (id_column ∷ cs) r ≡ true

not_alone : (cs : List Column) (v : Value) → ends_filled false cs ≡ true → are_present (Some 0) 1 cs (v ∷ []) ≡ true → ⊥
not_alone [] v ends h = true≢false (sym ends)
not_alone (c ∷ cs) v ends h = not_short c cs 1 (v ∷ []) (omega (arith)) refl ends h

same_row : (cs : List Column) (r : Row) → list_all (λ (c : Column). c.is_strict) cs ≡ true → ends_filled false cs ≡ true → IsTrue (is_int (rowid r)) → IsTyped cs r → IsPresent cs r
    → (Int (int_of (column r 0)) ∷ Null ∷ restored_all cs 1 r) ≡ r
same_row cs [] strict ends key typed present = absurd (true≢false (sym key))
same_row cs (v ∷ []) strict ends key typed present = absurd (not_alone cs v ends present)
same_row cs (v ∷ w ∷ vs) strict ends key typed present =
    let t = and_parts _ _ (and_parts _ _ typed).0 in
    ap₂ ◌∷◌ (int-is v key) (ap₂ ◌∷◌ (sym (null-is w t.0)) (same_values cs 1 (v ∷ w ∷ vs) vs (omega (arith)) strict (later-ends false cs ends) t.1 present refl))

-- ---- a table

below : (a b : Value) (m n : ℤ) → a ≡ Int m → b ≡ Int n → value_cmp a b ≡ Less → m <ℤ n
below a b m n p q low = lt_from_Less m n (sym (value_cmp-Int m n) ∙ subst₂ (λ (x y : Value). value_cmp x y ≡ Less) p q low)

module _ {X : Type 0} (L : Layout X) (read : Row → X) where
  abbrev IsBack : Row → Type 0
  IsBack r = L.to_row (read r) ≡ r

  key_of : (r : Row) → IsBack r → rowid r ≡ Int (L.key (read r))
  key_of r e = sym (ap rowid e) ∙ L.keyed (read r)

  all_back : (rows : List Row) → AllByRecursion IsBack rows → rows ≡ map L.to_row (map read rows)
  all_back [] each = refl
  all_back (r ∷ rs) each = ap₂ ◌∷◌ (sym each.0) (all_back rs each.1)

  keys_rise : (rows : List Row) → IsTable rows → AllByRecursion IsBack rows → IsKeyedBy L.key (map read rows)
  keys_rise [] up each = tt
  keys_rise (r ∷ rs) up each = (
    all_map (λ x. L.key (read r) <ℤ L.key x) read rs
        (all_both (λ s. value_cmp (rowid r) (rowid s) ≡ Less) IsBack (λ s. L.key (read r) <ℤ L.key (read s)) (λ s low e. below (rowid r) (rowid s) _ _ (key_of r each.0) (key_of s e) low) rs up.0 each.1),
    keys_rise rs up.1 each.1,
  )

  -- the rows of a sound table whose last column is NOT NULL
  pub holds : (cs : List Column) (db : Trees) → ((r : Row) → L.to_row (read r) ≡ (Int (int_of (column r 0)) ∷ Null ∷ restored_all cs 1 r)) → list_all (λ (c : Column). c.is_strict) cs ≡ true → ends_filled false cs ≡ true
      → AllByRecursion (IsTyped cs) (db L.tree) → AllByRecursion (IsPresent cs) (db L.tree) → IsShaped shape.Table (db L.tree) → Holds L db (map read (db L.tree))
  holds cs db restores strict ends typed present shaped =
      let both = all_both (IsTyped cs) (IsPresent cs) (λ r. IsTyped cs r × IsPresent cs r) (λ r t p. (t, p)) (db L.tree) typed present in
      let each = all_both (λ r. IsTrue (is_int (rowid r))) (λ r. IsTyped cs r × IsPresent cs r) IsBack (λ r key it. restores r ∙ same_row cs r strict ends key it.0 it.1) (db L.tree) shaped.1 both in
      record { rows = all_back (db L.tree) each; keyed = keys_rise (db L.tree) shaped.0 each }

-- ---- the eleven tables

abbrev pub after_key : Table → List Column
after_key table = drop 1 table.columns

pub content_of_sound : (db : Database) → IsDatabase db → db.schema ≡ registry → IsInOrder db → IsContent (contents db.trees) db
content_of_sound db sound is in_order =
    let d = db.trees in
    let obeys = (subst (λ (s : Schema). IsSound s d) is sound).obeys in
    let t = obeys.rules Datatype in
    let p = obeys.rules NotNull in
    let o = subst (λ (s : Schema). AllByRecursion (λ (t : Table). IsShaped shape.Table (d t.tree)) s.tables) is in_order in
    record {
      schema = is;
      metas = holds metas meta_in (after_key meta) d (λ r. refl) refl refl t.0 p.0 o.0;
      accounts = holds accounts account_in (after_key account) d (λ r. refl) refl refl t.1.0 p.1.0 o.1.0;
      contacts = holds contacts contact_in (after_key contact) d (λ r. refl) refl refl t.1.1.0 p.1.1.0 o.1.1.0;
      domains = holds domains domain_in (after_key domain) d (λ r. refl) refl refl t.1.1.1.0 p.1.1.1.0 o.1.1.1.0;
      hosts = holds hosts host_in (after_key host) d (λ r. refl) refl refl t.1.1.1.1.0 p.1.1.1.1.0 o.1.1.1.1.0;
      addresses = holds addresses address_in (after_key address) d (λ r. refl) refl refl t.1.1.1.1.1.0 p.1.1.1.1.1.0 o.1.1.1.1.1.0;
      links = holds links link_in (after_key link) d (λ r. refl) refl refl t.1.1.1.1.1.1.0 p.1.1.1.1.1.1.0 o.1.1.1.1.1.1.0;
      lines = holds lines line_in (after_key line) d (λ r. refl) refl refl t.1.1.1.1.1.1.1.0 p.1.1.1.1.1.1.1.0 o.1.1.1.1.1.1.1.0;
      messages = holds messages message_in (after_key message) d (λ r. refl) refl refl t.1.1.1.1.1.1.1.1.0 p.1.1.1.1.1.1.1.1.0 o.1.1.1.1.1.1.1.1.0;
      transfers = holds transfers transfer_in (after_key transfer) d (λ r. refl) refl refl t.1.1.1.1.1.1.1.1.1.0 p.1.1.1.1.1.1.1.1.1.0 o.1.1.1.1.1.1.1.1.1.0;
      days = holds day_table.days day_in (after_key days) d (λ r. refl) refl refl t.1.1.1.1.1.1.1.1.1.1.0 p.1.1.1.1.1.1.1.1.1.1.0 o.1.1.1.1.1.1.1.1.1.1.0;
    }
