use Rattle.std.proofs.Common.{◌≡◌, ◌∷◌, rules, refl, ap, map, string_bytes}
use Rattle.tldreg.specs.inner.Words.{texts}
use Rattle.tldreg.proofs.OptionLemmas.{took_value}
use Rattle.tldreg.proofs.settings.take_word.Goals as goal

pub returns : goal.returns
returns c =
    let next : texts c.args.words.now ≡ string_bytes c.in-Some.value ∷ texts c.next.new.self = ap (map string_bytes) c.in-Some.ensures.items in
    took_value (string_bytes c.args.word) (string_bytes c.in-Some.value) _ _ c.args.split.now (record { plain = c.args.split.now.plain; settings = c.set.new.self }) c.set.result (search rules) (search rules) next refl (search rules)
