-- What a registrar can't tell apart stays so.
use Rattle.std.specs.Prelude.{◌≡◌, ℕ}
use Rattle.policy.specs.Rules.{PolicyRules}
use Rattle.decisions.specs.Steps.{answer, effect}
use Rattle.protocol.specs.declared.command.Command.{Command}
use Rattle.protocol.specs.declared.reply.Reply.{Reply}
use Rattle.model.specs.Lapse.{lapsed, now}
use Rattle.model.specs.Registry.{Registry}
use Rattle.model.specs.Standards.{MeetsStandards}
use Rattle.model.specs.View.{view, view_for}
use Rattle.model.specs.WellFormed.{IsRegistry}

-- A registrar's command at a moment was answered, and one registry became another. In every value of
-- the maps that shows the registrar the same at that moment, the rules give the same reply.
--
-- In every registry that does so, what the registrar sees afterwards is the same again. Both are to meet
-- the standards, as the command finds them: a face shows graces, which are read off the account of the object's
-- sponsor, so a change of sponsor shows the registrar a face that depends on an account that it doesn't see. Say
-- alfa approves the transfer of a domain to beta. In a value of the maps where beta's account holds a line on the
-- domain whose grace began after the request, alfa's next face of it shows that grace; in another value, which
-- showed alfa the same before, beta has no such line. No registry has one. Every well formed registry is found so.
pub record IsIsolated (p : PolicyRules) (r : ℕ) (c : Command) (moment : ℕ) (before after : Registry) (reply : Reply) : Type 0 where
  pub same_reply : (other : Registry)
      → view_for p r c (lapsed p moment other) ≡ view_for p r c (lapsed p moment before)
      → reply ≡ answer p r c (lapsed p moment other)
  pub same_view : MeetsStandards p (lapsed p moment before) → (other : Registry)
      → MeetsStandards p (lapsed p moment other)
      → view_for p r c (lapsed p moment other) ≡ view_for p r c (lapsed p moment before)
      → view p r (now p after) ≡ view p r (now p (effect p r c (lapsed p moment other)))
  pub found : (s : Registry) → IsRegistry p (now p s) → MeetsStandards p (lapsed p moment s)
