-- What time enters into accounts commutes.
use Rattle.std.proofs.Common.{◌≡◌, ℕ, Bool, true, false, not, cond, ◌&&◌, List, [], ◌∷◌, map, Option, Some, refl, sym, ap, ◌∙◌, arith}
use Rattle.std.proofs.lemmas.{Bool.Decides.nat_tests, Cmp.{alike_right, nat_cmp_total}}
use Rattle.std.specs.{BTreeSet.insert_key, Cmp.IsTotalOrder, FinMap.{FinMap, IsAntisymmetric, nat_cmp-IsAntisymmetric}}
use Rattle.std.specs.{Ordering.{nat_cmp, ordering_reverse}, declared.cmp.Ordering.{Ordering, TheVariants.{Less, Equal, Greater}}}
use Rattle.basis.specs.Bag.{bag_of, remade}
use Rattle.basis.proofs.{BagLaws.{add-add, remade-add, remade-bag_of}, ChangeLaws.change_at-commutes}
use Rattle.accounts.specs.declared.{account.Account.Account, entries.LapseEntry.{LapseEntry, TheVariants.{Renewal, Start, Notice}}}
use Rattle.accounts.specs.declared.{entries.Posting.Posting, line.{Line.Line, TransferStart.TransferStart}, message.Message.Message}
use Rattle.accounts.specs.{Account.empty_account, Entries.{entered, posted, renewal_line}}
use Rattle.accounts.specs.{Lines.{begins_by, in_order, is_for_transfer, transfer_started}, MessageOrder.message_cmp_total}
use Rattle.accounts.specs.Messages.{message_cmp}
use Rattle.accounts.proofs.{LineLaws.lines_in_order, MessageLaws.message_cmp_only}

-- ---- an ordered set: two items put in, in either order

module _ {K : Type 0} (R : K → K → Ordering) (o : IsTotalOrder R) (only : IsAntisymmetric R) where
  turned : (x y : K) (r : Ordering) → R x y ≡ r → R y x ≡ ordering_reverse r
  turned x y r e = o.antisymm y x ∙ ap ordering_reverse e

  -- both before a list
  front : (x y : K) (zs : List K) (r : Ordering) → R x y ≡ r → insert_key R zs x ≡ x ∷ zs → insert_key R zs y ≡ y ∷ zs → insert_key R (y ∷ zs) x ≡ insert_key R (x ∷ zs) y
  front x y zs Less e gx gy = rw (e, turned x y Less e, gy) refl
  front x y zs Equal e gx gy = rw (e, turned x y Equal e) (ap (λ (t : K). t ∷ zs) (sym (only x y e)))
  front x y zs Greater e gx gy = rw (e, turned x y Greater e, gx) refl

  -- what stands before z stands before what comes after z
  after_front : (x y z : K) → R x z ≡ Less → R y z ≡ Greater → R y x ≡ Greater
  after_front x y z e f = turned x y Less (o.trans x z y e (turned y z Greater f))

  tied_front : (x y z : K) → R x z ≡ Less → R y z ≡ Equal → R y x ≡ Greater
  tied_front x y z e f = turned x y Less (alike_right o y z x f ∙ e)

  swap_at : (x y z : K) (zs : List K) (r s : Ordering) → R x z ≡ r → R y z ≡ s
      → insert_key R (insert_key R zs y) x ≡ insert_key R (insert_key R zs x) y
      → insert_key R (insert_key R (z ∷ zs) y) x ≡ insert_key R (insert_key R (z ∷ zs) x) y
  swap_at x y z zs Less Less e f ih =
      let before_x : insert_key R (z ∷ zs) x ≡ x ∷ z ∷ zs = rw e refl in
      let before_y : insert_key R (z ∷ zs) y ≡ y ∷ z ∷ zs = rw f refl in
      ap (λ l. insert_key R l x) before_y ∙ front x y (z ∷ zs) (R x y) refl before_x before_y ∙ ap (λ l. insert_key R l y) (sym before_x)
  swap_at x y z zs Less Equal e f ih = rw (f, e, tied_front x y z e f, f) refl
  swap_at x y z zs Less Greater e f ih = rw (f, e, after_front x y z e f, f) refl
  swap_at x y z zs Equal Less e f ih = rw (e, f, tied_front y x z f e, e) refl
  swap_at x y z zs Equal Equal e f ih = rw (f, e, f) refl
  swap_at x y z zs Equal Greater e f ih = rw (f, e, f) refl
  swap_at x y z zs Greater Less e f ih = rw (e, f, after_front y x z f e, e) refl
  swap_at x y z zs Greater Equal e f ih = rw (f, e, f) refl
  swap_at x y z zs Greater Greater e f ih = rw (f, e, f) (ap (λ (l : List K). z ∷ l) ih)

  pub insert_key-swap : (x y : K) (zs : List K) → insert_key R (insert_key R zs y) x ≡ insert_key R (insert_key R zs x) y
  insert_key-swap x y [] = front x y [] (R x y) refl refl refl
  insert_key-swap x y (z ∷ zs) = swap_at x y z zs (R x z) (R y z) refl refl (insert_key-swap x y zs)

-- ---- the earliest beginning

-- b and c: the line begins by the one and by the other; d and e: the one begins by the other, and the other by it
earliest : (l k m : Line) (b c d e : Bool) → (b ≡ true → d ≡ true → c ≡ true) → (c ≡ true → e ≡ true → b ≡ true) → (d ≡ false → e ≡ true) → (d ≡ true → e ≡ true → k ≡ m)
    → cond c (cond b l k) (cond e m k) ≡ cond b (cond c l m) (cond d k m)
earliest l k m b c d e f g h j = grind (arith, f, g, h, j)

begins-trans : (s : Option ℕ) (y t n u m : ℕ) → begins_by s y t n ≡ true → begins_by (Some t) n u m ≡ true → begins_by s y u m ≡ true
begins-trans s y t n u m e f = grind (arith, nat_tests, e, f)

begins-total : (t n u m : ℕ) → begins_by (Some t) n u m ≡ false → begins_by (Some u) m t n ≡ true
begins-total t n u m e = grind (arith, nat_tests, e)

begins-both : (t n u m : ℕ) → begins_by (Some t) n u m ≡ true → begins_by (Some u) m t n ≡ true → (t ≡ u) × (n ≡ m)
begins-both t n u m e f = (grind (arith, nat_tests, e, f), grind (arith, nat_tests, e, f))

abbrev begun : TransferStart → Line → Line
begun x l = record l { started = Some x.moment; years = x.years }

abbrev begins : TransferStart → Line → Bool
begins x l = begins_by l.started l.years x.moment x.years

not-cond : (b : Bool) (l m : Line) → cond (not b) m l ≡ cond b l m
not-cond b l m = grind arith

on : (x : TransferStart) (l : Line) → is_for_transfer x.roid l ≡ true → transfer_started x l ≡ cond (begins x l) l (begun x l)
on x l e = ap (λ b. cond (b && not (begins x l)) (begun x l) l) e ∙ not-cond (begins x l) l (begun x l)

off : (x : TransferStart) (l : Line) → is_for_transfer x.roid l ≡ false → transfer_started x l ≡ l
off x l e = ap (λ b. cond (b && not (begins x l)) (begun x l) l) e

off-after : (x y : TransferStart) (l : Line) (b : Bool) → is_for_transfer x.roid l ≡ false → transfer_started x (cond b (begun y l) l) ≡ cond b (begun y l) l
off-after x y l true e = off x (begun y l) e
off-after x y l false e = off x l e

on-after : (x y : TransferStart) (l : Line) (c : Bool) → is_for_transfer x.roid l ≡ true
    → transfer_started x (cond c l (begun y l)) ≡ cond c (cond (begins x l) l (begun x l)) (cond (begins_by (Some y.moment) y.years x.moment x.years) (begun y l) (begun x l))
on-after x y l true e = on x l e
on-after x y l false e = on x (begun y l) e

starts-both : (x y : TransferStart) (l : Line) → is_for_transfer x.roid l ≡ true → is_for_transfer y.roid l ≡ true → transfer_started x (transfer_started y l) ≡ transfer_started y (transfer_started x l)
starts-both x y l e f =
    let same : begins_by (Some x.moment) x.years y.moment y.years ≡ true → begins_by (Some y.moment) y.years x.moment x.years ≡ true → begun x l ≡ begun y l =
    λ p q. let both = begins-both x.moment x.years y.moment y.years p q in λ i. record l { started = Some (both.0 i); years = both.1 i } in
    ap (transfer_started x) (on y l f) ∙ on-after x y l (begins y l) e
    ∙ earliest l (begun x l) (begun y l) (begins x l) (begins y l) (begins_by (Some x.moment) x.years y.moment y.years) (begins_by (Some y.moment) y.years x.moment x.years)
    (begins-trans l.started l.years x.moment x.years y.moment y.years)
    (begins-trans l.started l.years y.moment y.years x.moment x.years)
    (begins-total x.moment x.years y.moment y.years)
    same
    ∙ sym (ap (transfer_started y) (on x l e) ∙ on-after y x l (begins x l) f)

starts-case : (x y : TransferStart) (l : Line) (a b : Bool) → is_for_transfer x.roid l ≡ a → is_for_transfer y.roid l ≡ b → transfer_started x (transfer_started y l) ≡ transfer_started y (transfer_started x l)
starts-case x y l true true e f = starts-both x y l e f
starts-case x y l false b e f = off-after x y l (is_for_transfer y.roid l && not (begins y l)) e ∙ sym (ap (transfer_started y) (off x l e))
starts-case x y l true false e f = ap (transfer_started x) (off y l f) ∙ sym (off-after y x l (is_for_transfer x.roid l && not (begins x l)) f)

starts-swap : (x y : TransferStart) (l : Line) → transfer_started x (transfer_started y l) ≡ transfer_started y (transfer_started x l)
starts-swap x y l = starts-case x y l (is_for_transfer x.roid l) (is_for_transfer y.roid l) refl refl

-- ---- bags of lines

map-swap : (f g : Line → Line) → ((l : Line) → f (g l) ≡ g (f l)) → (ls : List Line) → map f (map g ls) ≡ map g (map f ls)
map-swap f g e [] = refl
map-swap f g e (l ∷ ls) = λ i. e l i ∷ map-swap f g e ls i

pub remade-swap : (f g : Line → Line) → ((l : Line) → f (g l) ≡ g (f l)) → (ls : List Line) → remade in_order f (remade in_order g ls) ≡ remade in_order g (remade in_order f ls)
remade-swap f g e ls =
    remade-bag_of in_order lines_in_order f (map g ls) ∙ ap (bag_of in_order) (map-swap f g e ls) ∙ sym (remade-bag_of in_order lines_in_order g (map f ls))

-- ---- entries

pub entries-swap : (g h : LapseEntry) (a : Account) → entered g (entered h a) ≡ entered h (entered g a)
entries-swap (Renewal r) (Renewal s) a = ap (λ (ls : List Line). let b : Account = record a { lines = ls } in b) (add-add in_order lines_in_order (renewal_line r) (renewal_line s) a.lines)
entries-swap (Renewal r) (Start s) a = ap (λ (ls : List Line). let b : Account = record a { lines = ls } in b) (sym (remade-add in_order lines_in_order (transfer_started s) (renewal_line r) a.lines))
entries-swap (Renewal r) (Notice m) a = refl
entries-swap (Start s) (Renewal r) a = ap (λ (ls : List Line). let b : Account = record a { lines = ls } in b) (remade-add in_order lines_in_order (transfer_started s) (renewal_line r) a.lines)
entries-swap (Start s) (Start t) a = ap (λ (ls : List Line). let b : Account = record a { lines = ls } in b) (remade-swap (transfer_started s) (transfer_started t) (starts-swap s t) a.lines)
entries-swap (Start s) (Notice m) a = refl
entries-swap (Notice m) (Renewal r) a = refl
entries-swap (Notice m) (Start s) a = refl
entries-swap (Notice m) (Notice n) a = ap (λ (ms : List Message). let b : Account = record a { queue = ms } in b) (insert_key-swap message_cmp message_cmp_total message_cmp_only m n a.queue)

-- what time posts into accounts makes the same of them in whatever order
pub postings_commute : (accounts : FinMap nat_cmp Account) (g h : Posting) → posted (posted accounts g) h ≡ posted (posted accounts h) g
postings_commute accounts g h = change_at-commutes nat_cmp nat_cmp_total nat_cmp-IsAntisymmetric empty_account accounts h.registrar g.registrar (entered h.what) (entered g.what) (λ same a. entries-swap h.what g.what a)
