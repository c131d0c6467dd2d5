-- Whether the row of a host says who sponsors it.
use Rattle.std.proofs.Common.{◌≡◌, ℕ, ℤ, true, List, filter, Option, Some, None, IfSome, sym, ap, subst}
use Rattle.sqlobjects.proofs.Words.{bytes_same, Content, first_sponsor, Has, HasRightSponsor, HostRow, is_same, is_sponsor_right}
use Rattle.sqlobjects.proofs.{Words.{IsHostFound, or_else, rows_of, sponsor_of}, PutLemmas.{nobody, the-one}}
use Rattle.sqltables.specs.Domain.{domain_with_name}
use Rattle.sqltables.specs.Host as table
use Rattle.sqlcolumns.proofs.TransferLemmas.{same_as_itself}

pub same-from : (a b : Option ℤ) → a ≡ b → is_same a b ≡ true
same-from a b e = subst (λ (c : Option ℤ). is_same a c ≡ true) e (same_as_itself a)

-- where the domains are the same, so is who sponsors a host
pub sponsor-kept : (xs ys : Content) (row : HostRow) → ys.domains ≡ xs.domains → sponsor_of ys row ≡ sponsor_of xs row
sponsor-kept xs ys row domains = ap (λ rows. or_else row.external_sponsor (first_sponsor (filter (domain_with_name row.above) rows))) domains

-- each row of the name that was looked up has the right sponsor
pub found-right : (xs : Content) (name : List ℕ) (found : Option HostRow) → IsHostFound xs name found → (row : HostRow) → Has xs.hosts row → row.name ≡ name → is_sponsor_right xs row ≡ true
found-right xs name found it row there is = go found it.rows it.sponsor
  where
    go : (o : Option HostRow) → filter (table.host_with_name name) xs.hosts ≡ rows_of o → IfSome o (HasRightSponsor xs) → is_sponsor_right xs row ≡ true
    go None none right = absurd (nobody (λ (r : HostRow). r.name) name xs.hosts none row there is)
    go (Some r) one right =
        let same = the-one (table.host_with_name name) xs.hosts r row one there (bytes_same row.name name is) in
        same-from row.sponsor (sponsor_of xs row) (subst (HasRightSponsor xs) (sym same) right)
