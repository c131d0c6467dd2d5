-- Rows of hosts that take a domain's sponsor.
use Rattle.std.proofs.Common.{◌≡◌, ℕ, ℤ, Bool, true, false, not, cond, ◌||◌, List, [], ◌∷◌, map, filter, Option, is_some, refl, sym, ap, subst, ◌∙◌, true≢false}
use Rattle.sqlobjects.proofs.Words.{and_parts, AreHostsMoved, cons_option, Content, false_from_ne_true, filter_map, from_entries, Has, host_entry, HostRow}
use Rattle.sqlobjects.proofs.Words.{hosts_of, hosts_to, is_same, IsConsistent, IsSponsorSetBelow, list_all, update_where}
use Rattle.sqlobjects.proofs.{PutLemmas.{filter-has, map-stays}, VerdictLemmas.each-passes}
use Rattle.sqlcolumns.specs.Numbers.{maybe_registrar_column}
use Rattle.sqltables.specs.Host as table
use Rattle.sqlobjects.specs.{declared.host_sponsors.Sponsors.Sponsors, Sponsors.{AreMoved, sponsor_by_name, takes_sponsor, with_sponsor}}

-- ---- what hosts are isn't changed

entry-same : (xs ys : Content) (above : List ℕ) (sponsor : Option ℤ) (row : HostRow) → ys.addresses ≡ xs.addresses → host_entry ys (with_sponsor above sponsor row) ≡ host_entry xs row
entry-same xs ys above sponsor row addresses = go (takes_sponsor above row) ∙ ap (λ rows. host_entry (record xs { addresses = rows }) row) addresses
  where
    go : (b : Bool) → host_entry ys (cond b (record row { sponsor = sponsor }) row) ≡ host_entry ys row
    go true = refl
    go false = refl

entries-same : (xs ys : Content) (above : List ℕ) (sponsor : Option ℤ) (rows : List HostRow) → ys.addresses ≡ xs.addresses
    → filter_map (host_entry ys) (map (with_sponsor above sponsor) rows) ≡ filter_map (host_entry xs) rows
entries-same xs ys above sponsor [] addresses = refl
entries-same xs ys above sponsor (row ∷ rows) addresses = λ i. cons_option (entry-same xs ys above sponsor row addresses i) (entries-same xs ys above sponsor rows addresses i)

pub moved-stand : (xs ys : Content) (above : List ℕ) (before after : Option ℤ) → AreMoved above before after xs.hosts ys.hosts → ys.addresses ≡ xs.addresses → hosts_of ys ≡ hosts_of xs
moved-stand xs ys above before after moved addresses =
    ap (λ rows. from_entries (filter_map (host_entry ys) rows)) moved.has ∙ ap from_entries (entries-same xs ys above after xs.hosts addresses)

-- ---- the hosts of a domain

-- rows of which none lies below it are as they were
none-moved : (above : List ℕ) (after : Option ℤ) (rows : List HostRow) → filter (table.host_with_above above) rows ≡ [] → map (with_sponsor above after) rows ≡ rows
none-moved above after rows none = map-stays (with_sponsor above after) rows (λ row there.
    rw (false_from_ne_true (table.host_with_above above row) (λ e. subst (λ l. Has l row) none (filter-has (table.host_with_above above) rows row there e))) refl)

-- it has the sponsor before, unless somebody sponsors it outside the zone
abbrev pub Had : Sponsors → HostRow → Bool
Had s row = is_some row.external_sponsor || is_same row.sponsor s.before

module _ (xs : Content) (above given : List ℕ) (s : Sponsors) (rows : List HostRow) (same : given ≡ above) (found : rows ≡ filter (table.host_with_above given) xs.hosts) (tested : list_all (Had s) rows ≡ true) where
  are-below : rows ≡ filter (table.host_with_above above) xs.hosts
  are-below = found ∙ ap (λ n. filter (table.host_with_above n) xs.hosts) same

  had : (row : HostRow) → Has xs.hosts row → takes_sponsor above row ≡ true → is_same row.sponsor s.before ≡ true
  had row there takes =
      let parts = and_parts (table.host_with_above above row) (not (is_some row.external_sponsor)) takes in
      let among = subst (λ rs. Has rs row) (sym are-below) (filter-has (table.host_with_above above) xs.hosts row there parts.0) in
      inside (is_some row.external_sponsor) parts.1 (each-passes (Had s) rows tested row among)
    where
      inside : (outside : Bool) → not outside ≡ true → (outside || is_same row.sponsor s.before) ≡ true → is_same row.sponsor s.before ≡ true
      inside true none it = absurd (true≢false (sym none))
      inside false _ it = it

  pub hosts-moved : (other : List ℕ) → other ≡ above → AreHostsMoved above s xs (hosts_to (λ hosts. update_where (table.host_takes_sponsor other) (λ (x : HostRow). record x { sponsor = s.after }) hosts) xs)
  hosts-moved other is = record {
    rows = record { had = had; has = ap (λ n. map (with_sponsor n s.after) xs.hosts) is };
    rest = refl;
  }

  pub none-below : rows ≡ [] → AreHostsMoved above s xs xs
  none-below none = record {
    rows = record { had = had; has = sym (none-moved above s.after xs.hosts (sym are-below ∙ none)) };
    rest = refl;
  }

pub followed : (xs ys : Content) (above given : List ℕ) (before column : Option ℤ) (after : Option ℕ) → given ≡ above → before ≡ sponsor_by_name xs given → column ≡ maybe_registrar_column after
    → is_same before column ≡ false → IsConsistent xs → IsConsistent ys → AreHostsMoved above (record { before = before; after = column }) xs ys → IsSponsorSetBelow above after xs ys
followed xs ys above given before column after same is become differ consistent still moved =
    let was : before ≡ sponsor_by_name xs above = is ∙ ap (sponsor_by_name xs) same in
    record {
      stays = λ e. absurd (true≢false (sym e ∙ (λ i. is_same (sym was i) (sym become i)) ∙ differ));
      moves = λ e. subst (λ (b : Option ℤ). AreMoved above b (maybe_registrar_column after) xs.hosts ys.hosts) was (subst (λ (b : Option ℤ). AreMoved above before b xs.hosts ys.hosts) become moved.rows);
      hosts = moved-stand xs ys above before column moved.rows (ap (λ (x : Content). x.addresses) moved.rest);
      rest = moved.rest;
      consistent = (consistent, still);
    }
