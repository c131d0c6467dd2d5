-- A deleted domain that is put again beside another moment.
use Rattle.std.proofs.Common.{◌≡◌, ◌||◌, ℕ, true, false, int_eq, is_some, pos, List, Some, sym, ap, ◌∙◌}
use Rattle.sqlbook.proofs.Words.{capped, completes_at, Content, Domain, domain_read, DomainRow, domains_of, earlier, FinMap, get, is_live_right}
use Rattle.sqlbook.proofs.Words.{IsCheckedDomain, IsConsistent, IsReplaced, MeansSame, nat_cmp, nat_cmp-IsAntisymmetric, nat_list_cmp_total}
use Rattle.sqlbook.proofs.Words.{option_map_or, slice_cmp, slice_cmp-IsAntisymmetric, stored_of, with_domains}
use Rattle.sqlbook.proofs.ObjectLemmas.{live-of-reading}
use Rattle.sqlbook.proofs.ReplacingLemmas.{reading-is, reads-after, replaced, replaced-days, replaced-lines, replaced-right}
use Rattle.sqlite_rules.specs.Lists.{Has}
use Rattle.objects.specs.Domains.{expiry}
use Rattle.books.specs.Ledgers.{entry_set}
use Rattle.books.proofs.PutLemmas.{put-back, put-put}

-- what is put where it stands
found-put : (m : FinMap (slice_cmp nat_cmp) Domain) (name : List ℕ) (d : Domain) → get m name ≡ Some d → entry_set m name (Some d) ≡ m
found-put m name d is =
    sym (put-put (slice_cmp nat_cmp) nat_list_cmp_total (slice_cmp-IsAntisymmetric nat_cmp-IsAntisymmetric) m name (Some d) (Some d))
    ∙ ap (entry_set (entry_set m name (Some d)) name) (sym is)
    ∙ put-back (slice_cmp nat_cmp) nat_list_cmp_total (slice_cmp-IsAntisymmetric nat_cmp-IsAntisymmetric) m name (Some d)

-- the row of a deleted domain is right by any lengths
deleted-right : (xs : Content) (row : DomainRow) (d : Domain) → domain_read xs row ≡ Some d → is_some d.deletion ≡ true → is_live_right xs row ≡ true
deleted-right xs row d reads is =
    ap (λ o. option_map_or (λ (x : Domain). is_some x.deletion || int_eq row.due (pos (capped (earlier (expiry x) (completes_at x.transfer))))) o false) reads
    ∙ ap (λ b. b || int_eq row.due (pos (capped (earlier (expiry d) (completes_at d.transfer))))) is

pub put-again : (name : List ℕ) (d : Domain) (due : ℕ) (old new : Content) → IsConsistent old → IsReplaced name (Some d) (Some d) due old new → get (domains_of old) name ≡ Some d → is_some d.deletion ≡ true → MeansSame old new
put-again name d due old new consistent it there deleted =
    let was = λ (row : DomainRow) (here : Has old.domains row) (named : row.name ≡ name). deleted-right old row d (reading-is old row consistent here ∙ ap (get (domains_of old)) named ∙ there) deleted in
    let checked : IsCheckedDomain name is_live_right old (Some d) = record { domain_is = there; right_is = was } in
    record {
      stored = replaced name is_live_right (Some d) (Some d) due old new consistent checked it ∙ ap (λ m. with_domains m (stored_of old)) (found-put (domains_of old) name d there);
      sums = replaced-right name is_live_right (Some d) (Some d) due old new consistent checked it live-of-reading (λ row here named. deleted-right new row d (reads-after name is_live_right (Some d) (Some d) due old new consistent checked it row here named) deleted);
      days = replaced-days name is_live_right (Some d) (Some d) due old new consistent checked it;
      lines = replaced-lines name is_live_right (Some d) (Some d) due old new consistent checked it;
    }
