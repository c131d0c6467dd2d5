use Rattle.std.proofs.Common.{◌≡◌, List, filter, ap, sym, ◌∙◌}
use Rattle.sqlaccounts.proofs.Words.{account_of_rows, in_order, is_on, Line, LineSwap, list_all, remade, Roid, swapped_all}
use Rattle.sqlaccounts.proofs.{LinesOnLemmas.lines-bag, SwapLemmas.swaps-on}
use Rattle.sqlaccounts.proofs.reading_lines.swaps.Goals as goal

pub returns : goal.returns
returns g c = (
  c.in_ok-lines.ensures.0,
  λ clean.
      let xs = c.args.store.now.content in
      let lines : List Line = (account_of_rows c.args.registrar xs).lines in
      let change = g.C.LineChange.changed c.args.change.now in
      let found : c.in_ok-lines.lines ≡ filter (is_on c.domain-roid.result) lines = c.in_ok-lines.ensures.1 clean in
      ap (λ (swaps : List LineSwap). swapped_all swaps lines) c.from_vec.ensures
      ∙ swaps-on c.domain-roid.result change (λ line e. g.met.C.LineChange.elsewhere c.args.change.now line (ap (λ (roid : Roid). is_on roid line) (sym c.domain-roid.ensures) ∙ e)) c.in_ok-swaps.swaps.items lines (lines-bag xs c.args.registrar)
      (sym (c.if-not-are_on.ensures {u = tt} ∙ ap (list_all (λ (s : LineSwap). is_on c.domain-roid.result s.from)) c.deref.ensures.value))
      (ap (swapped_all c.in_ok-swaps.swaps.items) (sym found) ∙ c.in_ok-swaps.ensures {u = tt} ∙ ap (remade in_order change) found),
)
