-- What a change of the lines of a domain leaves as it is.
use Rattle.std.specs.Prelude.{◌≡◌, Bool, true, false, cond, not, ◌&&◌, is_some, Some, refl}
use Rattle.std.proofs.Common.{ap}
use Rattle.accounts.specs.declared.line.Line.{Line}
use Rattle.accounts.specs.declared.line.LineKind.TheVariants as kinds
use Rattle.accounts.specs.declared.line.TransferRefund.{TransferRefund}
use Rattle.accounts.specs.declared.line.TransferStart.{TransferStart}
use Rattle.accounts.specs.Lines.{begins_by, is_for_transfer, is_kind, is_on, transfer_refunded, transfer_started}

-- a test that asks for the domain fails on lines of another
pub unasked : (k b r : Bool) → b ≡ false → (k && (b && r)) ≡ false
unasked true b r e = rw e refl
unasked false b r e = refl

pub same-roid : (b : Bool) (l m : Line) → m.roid ≡ l.roid → (cond b m l).roid ≡ l.roid
same-roid true l m e = e
same-roid false l m e = refl

abbrev refunded : TransferRefund → Line → Line
refunded x l = record l { refunded = Some x.moment }

abbrev started : TransferStart → Line → Line
started x l = record l { started = Some x.moment; years = x.years }

pub refund-elsewhere : (x : TransferRefund) (l : Line) → is_on x.roid l ≡ false → transfer_refunded x l ≡ l
refund-elsewhere x l e = ap (λ b. cond (b && not (is_some l.started)) (refunded x l) l) (unasked (is_kind l.kind kinds.Transfer) (is_on x.roid l) (not (is_some l.refunded)) e)

pub refund-stays : (x : TransferRefund) (l : Line) → (transfer_refunded x l).roid ≡ l.roid
refund-stays x l = same-roid (is_for_transfer x.roid l && not (is_some l.started)) l (refunded x l) refl

pub start-elsewhere : (x : TransferStart) (l : Line) → is_on x.roid l ≡ false → transfer_started x l ≡ l
start-elsewhere x l e = ap (λ b. cond (b && not (begins_by l.started l.years x.moment x.years)) (started x l) l) (unasked (is_kind l.kind kinds.Transfer) (is_on x.roid l) (not (is_some l.refunded)) e)

pub start-stays : (x : TransferStart) (l : Line) → (transfer_started x l).roid ≡ l.roid
start-stays x l = same-roid (is_for_transfer x.roid l && not (begins_by l.started l.years x.moment x.years)) l (started x l) refl
