-- A head has one answer.
use Rattle.std.proofs.Common.{ℕ, List, ◌++◌, ap, sym, ◌∙◌, inl, inr}
use Rattle.httparse.specs.Grammar.{RequestHead}
use Rattle.rdap.proofs.HeadLemmas.{one_head, stays}
use Rattle.rdap.specs.{Answering.{AnswersAgree, Faces, IsAnswer, request_answer}, Heads.IsDecided, Requests.request_of}
use Rattle.policy.specs.Rules.{PolicyRules}

pub one_answer : AnswersAgree
one_answer p faces head one other (inl (h, has, is)) (inl (k, has_too, is_too)) =
    is ∙ ap (λ (l : RequestHead). request_answer p faces (request_of l.method l.target)) (one_head head h k has has_too) ∙ sym is_too
one_answer p faces head one other (inl (h, has, is)) (inr (none, is_too)) = absurd (none h has)
one_answer p faces head one other (inr (none, is)) (inl (k, has_too, is_too)) = absurd (none k has_too)
one_answer p faces head one other (inr (none, is)) (inr (none_too, is_too)) = is ∙ sym is_too

-- what follows bytes that are decided changes nothing
pub stands : (p : PolicyRules) (faces : Faces) (read more bytes : List ℕ) → IsDecided read → IsAnswer p faces read bytes → IsAnswer p faces (read ++ more) bytes
stands p faces read more bytes decided (inl (h, has, is)) = inl (h, stays read more h has, is)
stands p faces read more bytes (inl (h, has)) (inr (none, is)) = absurd (none h has)
stands p faces read more bytes (inr never) (inr (none, is)) = inr (never more, is)
