-- Who can't tell two registries apart is answered alike, and can't tell them apart afterwards. No
-- command is named here: facts are a function of the view, and each change commutes with it.
use Rattle.std.proofs.Common.{◌≡◌, ℕ, ◌≤◌, max, sym, ap, subst, ◌∙◌}
use Rattle.decisions.proofs.Words.{account_of, answer, changed_all, Command, decided, decision, effect, facts, IsSound, lapsed, lapsed-is-settled, last_clock}
use Rattle.decisions.proofs.Words.{MeetsStandards, now, PolicyRules, registries-meet-standards, Registry, reply_of, settled-is-now, view, view_for}
use Rattle.decisions.proofs.ViewLemmas.{AllMeet, same_facts, same_view, same_changed_all}
use Rattle.decisions.specs.Isolation.{IsIsolated}
use Rattle.decisions.proofs.{RegistryLemmas.registry-lapsed, TransferLemmas.meets-decided, SettledLemmas.settled-effect}
use Rattle.protocol.specs.declared.reply.Reply.{Reply}

same_decision : (p : PolicyRules) (r : ℕ) (c : Command) (s t : Registry) → view_for p r c s ≡ view_for p r c t → decision p r c s ≡ decision p r c t
same_decision p r c s t alike =
    ap (λ (clock : ℕ). decided p r clock c (facts p r c s)) (ap (λ v. v.clock) alike) ∙ ap (decided p r t.clock c) (same_facts p r c s t alike)

same_answer : (p : PolicyRules) (r : ℕ) (c : Command) (s t : Registry) → view_for p r c s ≡ view_for p r c t → answer p r c s ≡ answer p r c t
same_answer p r c s t alike =
    ap (λ d. reply_of p r c d.verdict (account_of r s).commands) (same_decision p r c s t alike)
    ∙ ap (λ v. reply_of p r c (decision p r c t).verdict v.account.commands) alike

same_effect : (p : PolicyRules) → IsSound p → (r : ℕ) (c : Command) (s t : Registry) → MeetsStandards p s → MeetsStandards p t → view_for p r c s ≡ view_for p r c t → view p r (effect p r c s) ≡ view p r (effect p r c t)
same_effect p sound r c s t here there alike =
    let one : decision p r c s ≡ decision p r c t = same_decision p r c s t alike in
    ap (λ d. view p r (changed_all p d.changes s)) one
    ∙ same_changed_all p r (decision p r c t).changes s t (subst (λ d. AllMeet p r d.changes s) one (meets-decided p sound r c s here)) (meets-decided p sound r c t there) (same_view p r c s t alike)

-- a command leaves nothing due, so what it leaves is what that is now
pub effect-is-now : (p : PolicyRules) → IsSound p → (r : ℕ) (c : Command) (moment : ℕ) (s : Registry) → MeetsStandards p (lapsed p moment s) → now p (effect p r c (lapsed p moment s)) ≡ effect p r c (lapsed p moment s)
effect-is-now p sound r c moment s formed = settled-is-now p (effect p r c (lapsed p moment s)) (settled-effect p sound r c (lapsed p moment s) formed.clock (λ name d at. (formed.domains name d at).is_at.deletion) (lapsed-is-settled p (max moment s.clock) s))

pub isolated : (p : PolicyRules) → IsSound p → (r : ℕ) (c : Command) (moment : ℕ) → moment ≤ last_clock → (before after : Registry) (reply : Reply)
    → reply ≡ answer p r c (lapsed p moment before) → now p after ≡ now p (effect p r c (lapsed p moment before)) → IsIsolated p r c moment before after reply
isolated p sound r c moment early before after reply post left = record {
  same_reply = λ other alike. post ∙ sym (same_answer p r c _ _ alike);
  same_view = λ meets other also alike. ap (view p r) (left ∙ effect-is-now p sound r c moment before meets)
      ∙ sym (same_effect p sound r c (lapsed p moment other) (lapsed p moment before) also meets alike)
      ∙ sym (ap (view p r) (effect-is-now p sound r c moment other also));
  found = λ s formed. registries-meet-standards p (lapsed p moment s) (registry-lapsed p moment s early formed);
}
