-- A row that is put down is read back.
use Rattle.std.proofs.Common.{◌≡◌, ℕ, ℤ, List, map, Option, Some, None, refl, ap, ◌∙◌}
use Rattle.sqltables.proofs.Words.{accounts, addresses, bytes_of, contacts, Content, contents, Database, domains, Holds}
use Rattle.sqltables.proofs.Words.{hosts, Int, int_of, IsContent, Layout, lines, links}
use Rattle.sqltables.proofs.Words.{messages, metas, or_null, Row, Text, transfers, Trees, map_back, unless_null}
use Rattle.sqltables.specs.Day.{days}
use Rattle.sqltables.specs.Decoding.{meta_in, account_in, contact_in, domain_in, host_in, address_in, link_in, line_in, message_in, transfer_in, day_in}

back-number : (o : Option ℤ) → unless_null int_of (or_null Int o) ≡ o
back-number None = refl
back-number (Some v) = refl

back-text : (o : Option (List ℕ)) → unless_null bytes_of (or_null Text o) ≡ o
back-text None = refl
back-text (Some v) = refl

table-back : {X : Type 0} (L : Layout X) (read : Row → X) → ((x : X) → read (L.to_row x) ≡ x) → (db : Trees) (xs : List X) → Holds L db xs → map read (db L.tree) ≡ xs
table-back L read back db xs h = ap (map read) h.rows ∙ map_back L.to_row read back xs

-- the rows that a database decodes to are those that it holds
pub decoded : (xs : Content) (db : Database) → IsContent xs db → contents db.trees ≡ xs
decoded xs db h =
    let d = db.trees in
    let e0 = table-back metas meta_in (λ x. refl) d xs.metas h.metas in
    let e1 = table-back accounts account_in (λ x. refl) d xs.accounts h.accounts in
    let e2 = table-back contacts contact_in (λ x. rw (back-number x.transferred, back-number x.updated, back-text x.postal.org, back-text x.postal.state, back-text x.postal.postal_code, back-text x.voice, back-number x.due)) d xs.contacts h.contacts in
    let e3 = table-back domains domain_in (λ x. rw (back-number x.transferred, back-number x.updated, back-number x.deleted, back-number x.restore_requested)) d xs.domains h.domains in
    let e4 = table-back hosts host_in (λ x. rw (back-number x.external_sponsor, back-number x.sponsor, back-number x.updated)) d xs.hosts h.hosts in
    let e5 = table-back addresses address_in (λ x. refl) d xs.addresses h.addresses in
    let e6 = table-back links link_in (λ x. rw (back-number x.contact, back-number x.host)) d xs.links h.links in
    let e7 = table-back lines line_in (λ x. rw (back-number x.creator, back-number x.serial, back-number x.grace.started, back-number x.grace.ends, back-number x.refunded)) d xs.lines h.lines in
    let e8 = table-back messages message_in (λ x. refl) d xs.messages h.messages in
    let e9 = table-back transfers transfer_in (λ x. rw (back-number x.contact, back-number x.domain, back-number x.due)) d xs.transfers h.transfers in
    let e10 = table-back days day_in (λ x. refl) d xs.days h.days in
    rw (e0, e1, e2, e3, e4, e5, e6, e7, e8, e9, e10)
