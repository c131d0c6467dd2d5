-- Who has no account holds no domain.
use Rattle.std.proofs.Common.{◌≡◌, inl, ℕ, ℤ, pos, Bool, true, false, not, ◌&&◌, ◌||◌, ◌==◌, List, [], ◌∷◌, filter, Option, Some, None, option_map, refl, sym, ap, ◌∙◌}
use Rattle.std.proofs.Math.Bool.{and-false}
use Rattle.sqlderived.proofs.Words.{AccountRow, Content, Domain, domain_read, DomainRow, domains_of, eqb-true, get_by-has, Has, has-filter, held_of}
use Rattle.sqlderived.proofs.Words.{is_held_by, is_incoming, is_pending_state, IsConsistent, last_transfer, registrar_column, row_of, same_some}
use Rattle.sqlderived.proofs.Words.{Transfer, transfer_of_columns, transfer_with_domain, transfer_written, values}
use Rattle.sqlite_keyed.proofs.ListLemmas.{none_counted}
use Rattle.sqldomains.proofs.{LinkedLemmas.none-passes, SponsorLemmas.{parts, sponsor-read}}
use Rattle.sqltables.specs.Account as account_table
use Rattle.sqltables.specs.declared.transfer.TransferRow.{TransferRow}

-- what transfers mean is read of one of them
pub last-has : (rows : List TransferRow) (x : Transfer) → last_transfer rows ≡ Some (Some x) → (row : TransferRow) × Has rows row × (transfer_of_columns row ≡ Some x)
last-has [] x e = cc
last-has (row ∷ []) x e = go (transfer_of_columns row) refl e
  where
    go : (o : Option Transfer) → transfer_of_columns row ≡ o → option_map Some o ≡ Some (Some x) → (r : TransferRow) × Has (row ∷ []) r × (transfer_of_columns r ≡ Some x)
    go None is f = cc
    go (Some y) is f = (row, inl refl, is ∙ same_some (Some y) (Some x) f)
last-has (row ∷ next ∷ rows) x e = cc

module _ (xs : Content) (r : ℕ) (consistent : IsConsistent xs) (none : row_of xs (pos r) ≡ None) where
  -- whom a column refers to is another
  another : (column : ℤ) (q : ℕ) → column ≡ registrar_column q → (y : AccountRow) × Has xs.accounts y × (y.id ≡ column) → (q == r) ≡ false
  another column q is leads = go (q == r) refl
    where
      go : (b : Bool) → (q == r) ≡ b → (q == r) ≡ false
      go false e = e
      go true e =
          let found : ◌≡◌ {A = Option AccountRow} (Some leads.0) None =
          sym (get_by-has account_table.accounts.key xs.accounts leads.0 consistent.keyed.accounts leads.1) ∙ ap (row_of xs) (leads.2 ∙ is ∙ ap pos (eqb-true q r e)) ∙ none in cc

  no-incoming : (rows : List TransferRow) (o : Option Transfer) → last_transfer rows ≡ Some o → ((x : TransferRow) → Has rows x → Has xs.transfers x) → is_incoming r o ≡ false
  no-incoming rows None e among = refl
  no-incoming rows (Some t) e among =
      let it = last-has rows t e in
      ap (λ b. is_pending_state t.state && b)
      (another it.0.requester t.requester (sym (ap (λ (z : TransferRow). z.requester) (transfer_written it.0 t it.2)))
      (consistent.linked.transfer_requester it.0 (among it.0 it.1) it.0.requester refl))
      ∙ and-false (is_pending_state t.state)

  unheld : (row : DomainRow) (d : Domain) → Has xs.domains row → domain_read xs row ≡ Some d → is_held_by r d ≡ false
  unheld row d here reads =
      let rows = filter (transfer_with_domain row.id) xs.transfers in
      ap (λ b. b || is_incoming r d.transfer) (another row.sponsor d.sponsor (sponsor-read xs row d reads) (consistent.linked.domain_sponsor row here row.sponsor refl))
      ∙ no-incoming rows d.transfer (parts xs row d reads).transfer (λ x h. (has-filter (transfer_with_domain row.id) xs.transfers x h).0)

  pub holds-none : held_of xs r ≡ 0
  holds-none = eqb-true (held_of xs r) 0 (none_counted (is_held_by r) (values (domains_of xs)) ∙ ap not (none-passes xs (is_held_by r) unheld))
