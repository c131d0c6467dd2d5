use Rattle.std.proofs.{Common.{◌≡◌, List, ℕ, ◌∷◌, string_bytes, rules, ◌∙◌}, lemmas.Result.err_from_is_err_and}
use Rattle.tldreg.specs.inner.Words.{IsPort, texts}
use Rattle.tldreg.proofs.WordLemmas.{no_serving}
use Rattle.tldreg.proofs.command_line.serve_of.Goals as goal

pub returns-in_err-job : goal.returns-in_err-job
returns-in_err-job c =
    let exit = err_from_is_err_and c.from_residual-in_err-job.result c.from_residual-in_err-job.ensures.1 in
    let rest : List (List ℕ) = texts c.next_word-3.new.words in
    let words : texts c.args.words ≡ string_bytes c.in_ok-policy.policy ∷ string_bytes c.in_ok-database.database ∷ string_bytes c.in_ok-port.port ∷ rest = search rules in
    let port : IsPort (string_bytes c.in_ok-port.port) c.in_ok-port_of.field-0 = search rules in
    let none = no_serving (string_bytes c.in_ok-policy.policy) (string_bytes c.in_ok-database.database) (string_bytes c.in_ok-port.port) c.in_ok-port_of.field-0 rest port c.in_err-job.ensures.1 in
    rw (exit.1, words) (exit.2 ∙ c.in_err-job.ensures.0, none)
