use Rattle.policy.proofs.DocumentLemmas.{document_of-text, document_of-none}
use Rattle.policy.proofs.document.document_of.Goals as goal

pub returns-in-Ok : goal.returns-in-Ok
returns-in-Ok c = document_of-text c.args.bytes.now _ c.in-Ok.ensures.ok.0 c.in-Ok.ensures.ok.1

pub returns-in-Err-2 : goal.returns-in-Err-2
returns-in-Err-2 c =
    document_of-none c.args.bytes.now (λ text. c.in-Err.ensures.refused (λ memory. let told = c.is_memory.ensures.1 memory in let not = c.if-is_memory.false in absurd cc) text)
