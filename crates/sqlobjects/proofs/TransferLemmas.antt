-- The last transfer of a contact or a domain, removed, replaced and added.
use Rattle.std.proofs.Common.{◌≡◌, ◌&&◌, inl, ℤ, true, false, [], ◌∷◌, ◌++◌, Option, Some, None, IfSome, is_some, option_map, refl, sym, ap, subst, ◌∙◌, int_eq, true≢false}
use Rattle.std.proofs.Math.Bool.{and_comm}
use Rattle.sqlobjects.proofs.Words.{Content, Decides-int_eq, delete_where, Has, is_transfer_of, IsKeyedBy, IsStorableTransfer}
use Rattle.sqlobjects.proofs.Words.{IsTransferCleared, IsTransferPut, last_transfer, next_key, same_by_key, same_int, Transferable}
use Rattle.sqlobjects.proofs.Words.{transfers_to, with_over}
use Rattle.sqlobjects.proofs.PutLemmas.{filter-append, filter-append_pass, filter-delete, filter-deleted, filter-has, filter-in-place, filter-insert_by, has-filter, the-one}
use Rattle.sqlite_keyed.specs.Rules.{points_to}
use Rattle.objects.specs.declared.transfer.Transfer as object
use Rattle.sqlcolumns.proofs.TransferLemmas.{transfer_back}
use Rattle.sqltables.specs.{Transfer.transfers, declared.transfer.TransferRow.TransferRow}
use Rattle.sqlobjects.specs.declared.transfers.Transferable.TheVariants.{Contact, Domain}
use Rattle.sqlobjects.specs.inner.Transfers.{IsRowOf, are_same, maybe_row, names_both, transfer_row_of}

-- ---- whose a row is

-- what leads to one number leads to no other
elsewhere : (o : Option ℤ) (id other : ℤ) → int_eq id other ≡ false → points_to o id ≡ true → points_to o other ≡ false
elsewhere None id other apart is = absurd (true≢false (sym is))
elsewhere (Some c) id other apart is = ap (λ k. int_eq k other) (same_int c id is) ∙ apart

nowhere : (o p : Option ℤ) (id other : ℤ) → (is_some o && is_some p) ≡ false → points_to o id ≡ true → points_to p other ≡ false
nowhere None p id other single is = absurd (true≢false (sym is))
nowhere (Some c) None id other single is = refl
nowhere (Some c) (Some d) id other single is = absurd (true≢false single)

-- a row that isn't of both is of no other object
alone : (it other : Transferable) (row : TransferRow) → names_both row ≡ false → are_same it other ≡ false → is_transfer_of it row ≡ true → is_transfer_of other row ≡ false
alone (Contact id) (Contact other) row single apart is = elsewhere row.contact id other apart is
alone (Contact id) (Domain other) row single apart is = nowhere row.contact row.domain id other single is
alone (Domain id) (Contact other) row single apart is = nowhere row.domain row.contact id other (and_comm (is_some row.domain) (is_some row.contact) ∙ single) is
alone (Domain id) (Domain other) row single apart is = elsewhere row.domain id other apart is

-- ---- the row of an object's transfer

-- under a number
module _ (k : ℤ) (t : object.Transfer) (is : IsStorableTransfer t) where
  abbrev row_under : Transferable → TransferRow
  row_under it = record (transfer_row_of it t) { id = k }

  own-row : (it : Transferable) → is_transfer_of it (row_under it) ≡ true
  own-row (Contact id) = (Decides-int_eq id id).1 refl
  own-row (Domain id) = (Decides-int_eq id id).1 refl

  single-row : (it : Transferable) → names_both (row_under it) ≡ false
  single-row (Contact id) = refl
  single-row (Domain id) = refl

  read-back : (it : Transferable) → last_transfer (row_under it ∷ []) ≡ Some (Some t)
  read-back (Contact id) = ap (option_map Some) (transfer_back k (Some id) None t is)
  read-back (Domain id) = ap (option_map Some) (transfer_back k None (Some id) t is)

-- ---- removed, replaced and added

-- a row of the object is of no other object
only-its : (it : Transferable) (xs : Content) (there : Option TransferRow) → IsRowOf it xs.transfers there → (t : TransferRow) → Has xs.transfers t → is_transfer_of it t ≡ true → names_both t ≡ false
only-its it xs None of t h e = absurd (subst (λ l. Has l t) of.is (filter-has (is_transfer_of it) xs.transfers t h e))
only-its it xs (Some one) of t h e = ap names_both (the-one (is_transfer_of it) xs.transfers one t of.is h e) ∙ of.alone

-- whatever was there
pub transfer-cleared : (it : Transferable) (xs : Content) (there : Option TransferRow) → IsRowOf it xs.transfers there → IsTransferCleared it xs (transfers_to (delete_where (is_transfer_of it)) xs)
transfer-cleared it xs there of = record {
  none = filter-deleted (is_transfer_of it) (is_transfer_of it) xs.transfers (λ t h e. e);
  kept = record {
    others = λ other apart. filter-delete (is_transfer_of other) (is_transfer_of it) xs.transfers (λ t h e. alone it other t (only-its it xs there of t h e) apart e);
    rest = refl;
  };
}

pub transfer-put : (it : Transferable) (xs : Content) (transfer : Option object.Transfer) (there row : Option TransferRow) → row ≡ maybe_row it transfer → IfSome transfer IsStorableTransfer
    → IsRowOf it xs.transfers there → IsKeyedBy transfers.key xs.transfers → IsTransferPut it transfer xs (transfers_to (with_over it there row) xs)
transfer-put it xs transfer there row given is of keyed =
    subst (λ r. IsTransferPut it transfer xs (transfers_to (with_over it there r) xs)) (sym given) (go there transfer is of)
  where
    go : (there : Option TransferRow) (transfer : Option object.Transfer) → IfSome transfer IsStorableTransfer → IsRowOf it xs.transfers there → IsTransferPut it transfer xs (transfers_to (with_over it there (maybe_row it transfer)) xs)
    go None None is of = record { last = ap last_transfer of.is; kept = record { others = λ other apart. refl; rest = refl } }
    go None (Some t) is of =
        let k = next_key transfers.key xs.transfers in
        let row : TransferRow = row_under k t is it in
        record {
          last = ap last_transfer (filter-append_pass (is_transfer_of it) xs.transfers row (own-row k t is it) ∙ ap (λ rows. rows ++ row ∷ []) of.is) ∙ read-back k t is it;
          kept = record {
            others = λ other apart. filter-append (is_transfer_of other) xs.transfers row (alone it other row (single-row k t is it) apart (own-row k t is it));
            rest = refl;
          };
        }
    go (Some one) None is of = let clear = transfer-cleared it xs (Some one) of in record { last = ap last_transfer clear.none; kept = clear.kept }
    go (Some one) (Some t) is of =
        let row : TransferRow = row_under one.id t is it in
        let there = has-filter (is_transfer_of it) xs.transfers one (subst (λ l. Has l one) (sym of.is) (inl refl)) in
        record {
          last = ap last_transfer (filter-in-place transfers.key (is_transfer_of it) xs.transfers one row keyed refl (own-row one.id t is it) of.is) ∙ read-back one.id t is it;
          kept = record {
            others = λ other apart. filter-insert_by transfers.key (is_transfer_of other) xs.transfers row (alone it other row (single-row one.id t is it) apart (own-row one.id t is it))
                (λ x h e. ap (is_transfer_of other) (same_by_key transfers.key xs.transfers x one keyed h there.0 e) ∙ alone it other one of.alone apart there.1);
            rest = refl;
          };
        }
