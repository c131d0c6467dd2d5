use Rattle.std.proofs.Common.{◌-◌, suc}
use Rattle.objects.specs.Domains.{expiry}
use Rattle.lifecycle.proofs.RenewLemmas.{IsRenewing}
use Rattle.lifecycle.proofs.renewal.renew.Given as goal

abbrev pub decreases-loop-expiry : goal.decreases-loop-expiry
decreases-loop-expiry l = suc l.fn.moment - expiry l.domain

abbrev pub invariant-loop-expiry : goal.invariant-loop-expiry
invariant-loop-expiry l = IsRenewing l.fn.policy l.fn.moment l.initial.domain l.initial.postings l.domain l.postings
