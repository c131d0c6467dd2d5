use Rattle.std.proofs.Common.{◌∙◌, sym}
use Rattle.objects.specs.Domains.{expiry}
use Rattle.lifecycle.proofs.PastLemmas.{has_passed, lies_ahead}
use Rattle.lifecycle.proofs.RenewLemmas.{renewing-begins, renewing-more, renewing-done, renewing-smaller}
use Rattle.lifecycle.proofs.renewal.renew.Goals as goal

pub loop-expiry-init : goal.loop-expiry-init
loop-expiry-init c = renewing-begins _ _ _ _

pub loop-expiry-smaller : goal.loop-expiry-smaller
loop-expiry-smaller c =
    renewing-smaller c.args.moment c.loop-expiry.domain c.turn.new.domain c.in_ok-turn.ensures.domain
    (has_passed c.args.moment (expiry c.loop-expiry.domain) c.in-Some.expiry (sym c.expired.ensures.value ∙ c.in-Some.is)).1

pub loop-expiry-preserved : goal.loop-expiry-preserved
loop-expiry-preserved c =
    renewing-more _ _ _ _ _ _ _ _ c.loop-expiry.invariant
    (has_passed c.args.moment (expiry c.loop-expiry.domain) c.in-Some.expiry (sym c.expired.ensures.value ∙ c.in-Some.is)).1
    c.in_ok-turn.ensures.domain c.in_ok-turn.ensures.postings

pub returns-clause-domain : goal.returns-clause-domain
returns-clause-domain c =
    (renewing-done _ _ _ _ _ _ c.loop-expiry.invariant (lies_ahead c.args.moment (expiry c.loop-expiry.domain) (sym c.expired.ensures.value ∙ c.in_default.is))).0

pub returns-clause-postings : goal.returns-clause-postings
returns-clause-postings c =
    (renewing-done _ _ _ _ _ _ c.loop-expiry.invariant (lies_ahead c.args.moment (expiry c.loop-expiry.domain) (sym c.expired.ensures.value ∙ c.in_default.is))).1
