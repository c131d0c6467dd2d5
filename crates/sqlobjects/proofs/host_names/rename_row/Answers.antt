use Rattle.std.proofs.Common.{◌≡◌, ℕ, true, false, List, [], subst, sym, true≢false}
use Rattle.sqlobjects.proofs.Words.{addresses_of, AreAddressesPut, Content, HasChanged, IsRowRenamed, IsRowTaken, reads-same}
use Rattle.sqlobjects.proofs.{RowNameLemmas.row-renamed, StepLemmas.asked-became}
use Rattle.sqlobjects.proofs.host_names.rename_row.Goals as goal

pub returns : goal.returns
returns g c =
    let old = c.args.store.now in
    let middle = c.take_row.new.store in
    let new = c.put_addresses.new.store in
    let from = c.args.from.now in
    let host = c.args.host.now in
    let row = c.in_ok-row.row in
    let put : List (List ℕ) → Content → Content → Type 0 = λ texts m e. (false ≡ true → addresses_of m row.id ≡ []) → AreAddressesPut row.id texts m e in
    asked-became (IsRowTaken from host row) (put host.addresses) (IsRowRenamed from host) old old middle new (reads-same old)
    c.in_ok-row.ensures (subst (λ texts. HasChanged (put texts) middle new) c.as_slice.ensures (c.in_ok-put_addresses.ensures {u = tt}))
    (λ begun there between clean taken with.
    row-renamed from host row old.content middle.content new.content (c.show_consistent.ensures begun) (c.show_consistent-2.ensures clean) (c.is_host.ensures.0 c.if-not-is_host.false) taken (with (λ e. absurd (true≢false (sym e)))))
