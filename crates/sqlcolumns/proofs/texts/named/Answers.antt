use Rattle.std.proofs.Common.{◌≡◌, ◌==◌, ◌<◌, ℕ, List, length, get_or, map, Some, lit<, sym, ap, ◌∙◌}
use Rattle.std.proofs.lemmas.Iterator.{Consumers.{YieldsList-end, YieldsList-turn}, Splits.YieldsList-from_str_split}
use Rattle.std.specs.List.{slice_split}
use Rattle.objects.specs.StatusTexts.{status_named, status_text}
use Rattle.sqlcolumns.proofs.TextLemmas.{all_named, empty_in, filled_in, named_more, none_named}
use Rattle.sqlcolumns.proofs.texts.named.Goals as goal

pub returns-then-is_empty : goal.returns-then-is_empty
returns-then-is_empty c = ap Some c.new.ensures ∙ empty_in c.args.text.now (sym c.is_empty.ensures ∙ c.if-is_empty.true)

pub returns-in_default : goal.returns-in_default
returns-in_default c =
    let words : List (List ℕ) = slice_split (λ b. b == 32) c.args.text.now in
    let at : (length c.loop-word.yielded < length words) × (c.in-Some.word.now ≡ get_or words (length c.loop-word.yielded) c.in-Some.word.now) =
    YieldsList-turn (YieldsList-from_str_split 32 c.args.text.now (lit< tt) (cc) (cc) (cc)) c.loop-word.yielded _ c.loop-word.yielded_by _ _ c.in-Some.word c.in-Some.is c.next.ensures.steps in
    none_named words c.in-Some.word.now (length c.loop-word.yielded) at (sym c.in_default.is ∙ c.named.ensures) ∙ filled_in c.args.text.now (sym c.is_empty.ensures ∙ c.if-is_empty.false)

pub loop-word-preserved : goal.loop-word-preserved
loop-word-preserved c =
    let named : Some c.in-Some-named.status ≡ status_named c.in-Some.word.now = sym c.in-Some-named.is ∙ c.named.ensures in
    ap (map status_text) c.in_ok-push.ensures.items ∙ named_more c.loop-word.yielded c.in-Some.word c.loop-word.statuses.items c.in-Some-named.status c.loop-word.invariant named

pub returns : goal.returns
returns c =
    let all = YieldsList-end (YieldsList-from_str_split 32 c.args.text.now (lit< tt) (cc) (cc) (cc)) c.loop-word.yielded _ c.loop-word.yielded_by _ _ c.in-None.is c.next.ensures.steps in
    all_named (slice_split (λ b. b == 32) c.args.text.now) c.from_vec.result (ap (map status_text) c.from_vec.ensures ∙ c.loop-word.invariant ∙ all.0) ∙ filled_in c.args.text.now (sym c.is_empty.ensures ∙ c.if-is_empty.false)
