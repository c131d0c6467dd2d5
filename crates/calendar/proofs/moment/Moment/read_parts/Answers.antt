use Rattle.std.proofs.Common.{◌≡◌, ◌∙◌, sym, ap, Some, None}
use Rattle.calendar.proofs.{PartsLemmas.IfSome-weaker, ReadLemmas.{parts_in-parts_text, parts_found, AreShort-parts_of}}
use Rattle.calendar.specs.{Text.{parts_of, parts_text, moment_text}, Reading.parts_in}
use Rattle.calendar.proofs.moment.Moment.read_parts.Goals as goal

pub returns-in_err-parts-clause-only : goal.returns-in_err-parts-clause-only
returns-in_err-parts-clause-only c m range e =
    let again = parts_in-parts_text (parts_of m) (AreShort-parts_of m range) in
    let told : None ≡ parts_in (moment_text m) = c.in_err-parts.ensures.value ∙ ap parts_in (c.as_bytes.ensures.value ∙ e) in
    absurd cc

pub returns-clause-found : goal.returns-clause-found
returns-clause-found c =
    let spelled = parts_found c.as_bytes.result.now c.in_ok-parts.parts (sym c.in_ok-parts.ensures.value) in
    IfSome-weaker c.of_parts.result _ _ (λ m h. sym c.as_bytes.ensures.value ∙ spelled ∙ ap parts_text (sym h)) c.of_parts.ensures.found

pub returns-clause-only : goal.returns-clause-only
returns-clause-only c m range e =
    let again = parts_in-parts_text (parts_of m) (AreShort-parts_of m range) in
    let told : Some c.in_ok-parts.parts ≡ parts_in (moment_text m) = c.in_ok-parts.ensures.value ∙ ap parts_in (c.as_bytes.ensures.value ∙ e) in
    c.of_parts.ensures.only m range cc
