use Rattle.std.proofs.{Common.{◌≡◌, List, ℕ, [], ◌∷◌, arith, refl, ap, sym, subst, map, string_bytes}, lemmas.List.length-map}
use Rattle.std.proofs.lemmas.Result.{err_from_is_err_and}
use Rattle.std.specs.Vec.Iter.{into_iter_items}
use Rattle.tldreg.specs.inner.{Options.{TakesNext, taking}, Words.texts}
use Rattle.tldreg.proofs.OptionLemmas.{fewer, gone_wrong, more_taken, no_more, none_taken}
use Rattle.tldreg.proofs.settings.split_of.Goals as goal

pub words-init : goal.words-init
words-init c = record {
  left = omega (arith, length-map (into_iter_items c.args.words) string_bytes, c.args.words.rest.ok.0, c.len-end.ensures);
  taken = none_taken _ _ c.usual.ensures refl (ap (map string_bytes) c.new.ensures.items);
}

pub words-preserved : goal.words-preserved
words-preserved c =
    let next : texts c.words.words ≡ string_bytes c.in-Some.word ∷ texts c.next.new.self = ap (map string_bytes) c.in-Some.ensures.items in
    let took : TakesNext (taking (texts c.words.words) c.words.split) (taking (texts c.take_word.new.words) c.take_word.new.split) =
    subst (λ (ws : List (List ℕ)). TakesNext (taking ws c.words.split) (taking (texts c.take_word.new.words) c.take_word.new.split)) (sym next) c.in_ok-take_word.ensures in
    record {
      left = omega (arith, fewer _ _ took, c.words.invariant.left);
      taken = more_taken _ _ _ c.words.invariant.taken took;
    }

pub returns-in_err-take_word : goal.returns-in_err-take_word
returns-in_err-take_word c =
    let next : texts c.words.words ≡ string_bytes c.in-Some.word ∷ texts c.next.new.self = ap (map string_bytes) c.in-Some.ensures.items in
    let p = err_from_is_err_and c.from_residual.result c.from_residual.ensures.1 in
    let wrong = gone_wrong _ (taking (texts c.words.words) c.words.split) _ c.words.invariant.taken
    (rw next c.in_err-take_word.ensures) in
    rw (p.1, p.2) wrong

pub returns : goal.returns
returns c =
    let none : texts c.words.words ≡ [] = no_more (texts c.words.words) (omega (arith, c.words.invariant.left, c.words-test.false)) in
    rw none at c.words.invariant.taken
