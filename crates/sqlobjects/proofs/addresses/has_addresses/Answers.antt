use Rattle.std.proofs.Common.{◌∙◌, filter, sym, ap}
use Rattle.sqlobjects.proofs.Words.{address_with_host, texts_of}
use Rattle.sqlobjects.proofs.addresses.has_addresses.Goals as goal

pub returns : goal.returns
returns g c =
    let asked = c.in_ok-rows.ensures in
    let all = c.args.store.now.content.addresses in (
      asked.0,
      λ clean is. ap (λ id. texts_of (filter (address_with_host id) all)) (sym c.number_of.ensures) ∙ ap texts_of (sym (asked.1 clean)) ∙ sym c.in_ok-there.ensures
          ∙ sym c.as_slice.ensures ∙ c.are_same.ensures.0 is,
    )
