-- A well formed registry is one by the standards.
use Rattle.std.proofs.Common.{◌≡◌, ℕ, true, cond, ◌&&◌, length, Option, Some, None, ◌∙◌}
use Rattle.std.specs.{Prelude.IfSome, List.filter}
use Rattle.accounts.specs.Lines.{waits}
use Rattle.objects.specs.{declared.{domain.Domain.Domain, transfer.Transfer.Transfer}, Transfers.is_pending_state}
use Rattle.policy.specs.Rules.{PolicyRules}
use Rattle.model.specs.{Registry.{Registry, account_of}, Standards.{IsStandardRequest, RegistriesMeetStandards}}
use Rattle.model.specs.WellFormed.{HasLinesOn, IsAwaitedIfPending, IsDomainOf, IsLastTransfer, IsTransferRecord, charges_waiting}
use Rattle.model.proofs.LineLemmas.{itself}

record-of : (p : PolicyRules) (s : Registry) (created : ℕ) (transferred : Option ℕ) (o : Option Transfer) → IsLastTransfer p s created transferred o → IfSome o (IsTransferRecord p s)
record-of p s created transferred None k = tt
record-of p s created transferred (Some t) k = k.recorded

request-of : (s : Registry) (d : Domain) (o : Option Transfer) → IsAwaitedIfPending s d o → ((r : ℕ) → length (filter (waits d.roid) (account_of r s).lines) ≡ charges_waiting r o)
    → IfSome o (λ (t : Transfer). is_pending_state t.state ≡ true → IsStandardRequest s d t)
request-of s d None k waiting = tt
request-of s d (Some t) k waiting = λ pending. let w = k pending in record {
  created = w.created;
  transferred = w.transferred;
  charge = waiting t.requester ∙ (λ i. cond (pending i && itself t.requester i) 1 0);
}

pub registries-meet-standards : RegistriesMeetStandards
registries-meet-standards p s is = record {
  clock = is.clock;
  identities = is.objects.identities;
  contacts = λ name c at. let k = is.objects.contacts name c at in record {
    is_at = k.is_at;
    transfer = record-of p s c.created c.transferred c.transfer k.transfer;
  };
  hosts = is.objects.hosts;
  domains = λ name d at.
      let k : IsDomainOf p s name d = is.objects.domains name d at in
      let on : HasLinesOn s d = is.lines.domains name d at in
      record {
        is_at = k.is_at;
        transfer = record-of p s d.created d.transferred d.transfer k.transfer;
        awaited = request-of s d d.transfer on.awaited on.waiting;
        elsewhere = on.elsewhere;
      };
  lines = is.lines.each;
  messages = is.messages;
}
