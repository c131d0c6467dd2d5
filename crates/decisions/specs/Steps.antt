-- One step of the registry: the rules, applied to what they may see.
use Rattle.std.specs.Prelude.{ℕ}
use Rattle.accounts.specs.Account.{saturating_next}
use Rattle.policy.specs.Rules.{PolicyRules}
use Rattle.decisions.specs.declared.decision.Decision.{Decision}
use Rattle.decisions.specs.Changes.{changed_all}
use Rattle.decisions.specs.Decisions.{decided}
use Rattle.protocol.specs.declared.command.Command.{Command}
use Rattle.protocol.specs.declared.reply.Reply.{Reply}
use Rattle.rules.specs.declared.verdict.Verdict.{Verdict}
use Rattle.facts.specs.Facts.{facts}
use Rattle.model.specs.Registry.{Registry, account_of}
use Rattle.rules.specs.ResponseData.{id_of}
use Rattle.protocol.specs.Requests.{cl_trid_of}

-- the decision on a registrar's command in a registry
abbrev pub decision : PolicyRules → ℕ → Command → Registry → Decision
decision p r c s = decided p r s.clock c (facts p r c s)

-- the reply to a verdict, numbered by the caller's own commands
abbrev pub reply_of : PolicyRules → ℕ → Command → Verdict → ℕ → Reply
reply_of p r c v commands = record {
  cl_trid = cl_trid_of c;
  code = v.code;
  content = v.content;
  sv_trid = record { id = id_of p r; number = saturating_next commands };
}

-- what a registrar's command is answered
abbrev pub answer : PolicyRules → ℕ → Command → Registry → Reply
answer p r c s = reply_of p r c (decision p r c s).verdict (account_of r s).commands

-- what it leaves
abbrev pub effect : PolicyRules → ℕ → Command → Registry → Registry
effect p r c s = changed_all p (decision p r c s).changes s
