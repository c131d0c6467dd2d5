-- To a domain's new row no link leads, and no transfer.
use Rattle.std.proofs.Common.{◌≡◌, ℕ, List, [], filter, refl, ap, ◌∙◌}
use Rattle.sqldomains.proofs.Words.{Content, DomainRow, Has, HasNoParts, IsConsistent, IsPlaced, link_with_domain, named_domains, rows_named, same_int}
use Rattle.sqldomains.proofs.Words.{transfer_with_domain}
use Rattle.sqlobjects.proofs.{NewRowLemmas.{fresh, points-so}, PutLemmas.none-pass}

pub no-parts : (xs m : Content) (n : List ℕ) (row : DomainRow) → IsConsistent xs → IsConsistent m → IsPlaced (λ (r : DomainRow). r.name) n row xs.domains m.domains → m ≡ record xs { domains = m.domains }
    → rows_named named_domains n xs ≡ [] → HasNoParts row.id m
no-parts xs m n row consistent still placed rest none =
    let new : (r : DomainRow) → Has xs.domains r → r.id ≡ row.id → ⊥ = fresh named_domains n row xs m still placed none in
    record {
      links = ap (λ (x : Content). filter (link_with_domain row.id) x.links) rest ∙ none-pass (link_with_domain row.id) xs.links (λ l there is.
          let led = consistent.linked.link_domain l there l.domain refl in
          new led.0 led.1 (led.2 ∙ same_int l.domain row.id is));
      transfers = ap (λ (x : Content). filter (transfer_with_domain row.id) x.transfers) rest ∙ none-pass (transfer_with_domain row.id) xs.transfers (λ t there is.
          let led = consistent.linked.transfer_domain t there row.id (points-so t.domain row.id is) in
          new led.0 led.1 led.2);
    }
