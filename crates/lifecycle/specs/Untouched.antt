-- What a refund leaves as it is.
use Rattle.std.specs.Prelude.{◌≡◌, false, Some, refl}
use Rattle.accounts.specs.declared.line.Line.{Line}
use Rattle.accounts.specs.LineChanges.{same-roid}
use Rattle.accounts.specs.Lines.{is_on}
use Rattle.lifecycle.specs.declared.change.RefundUnder.{RefundUnder}
use Rattle.lifecycle.specs.Changes.{refunded_under}
use Rattle.lifecycle.specs.Graces.{runs}

pub refund-elsewhere : (r : RefundUnder) (l : Line) → is_on r.refund.roid l ≡ false → refunded_under r l ≡ l
refund-elsewhere r l e = rw e refl

pub refund-stays : (r : RefundUnder) (l : Line) → (refunded_under r l).roid ≡ l.roid
refund-stays r l = same-roid (runs r.policy.now r.refund.moment r.refund.roid r.refund.transferred l) l (let m : Line = record l { refunded = Some r.refund.moment } in m) refl
