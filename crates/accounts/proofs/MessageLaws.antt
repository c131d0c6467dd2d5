-- Messages that tie in their order are one message.
use Rattle.std.proofs.Common.{◌≡◌, refl, ap, ◌∙◌, arith}
use Rattle.std.specs.{FinMap.{IsAntisymmetric, nat_cmp-IsAntisymmetric, slice_cmp-IsAntisymmetric}, Ordering.ordering_then}
use Rattle.std.specs.declared.cmp.Ordering.{Ordering, TheVariants.{Less, Equal, Greater}}
use Rattle.accounts.specs.declared.message.{CommandNotice.CommandNotice, LapseNotice.LapseNotice}
use Rattle.accounts.specs.declared.message.{Message.Message, Origin.{Origin, TheVariants.{Lapse, Command}}, Subject.Subject}
use Rattle.accounts.specs.Messages.{class_of, command_rank, letter_rank, message_cmp, number_of, subject_rank, tie_of}

pub then_equal : (a b : Ordering) → ordering_then a b ≡ Equal → (a ≡ Equal) × (b ≡ Equal)
then_equal Less b e = cc
then_equal Equal b e = (refl, e)
then_equal Greater b e = cc

same-letter : (a b : LapseNotice) → letter_rank a ≡ letter_rank b → a ≡ b
same-letter a b e = grind (arith, e)

same-command : (a b : CommandNotice) → command_rank a ≡ command_rank b → a ≡ b
same-command a b e = grind (arith, e)

same-subject : (a b : Subject) → subject_rank a ≡ subject_rank b → a ≡ b
same-subject a b e = grind (arith, e)

one_origin : (a b : Origin) → class_of a ≡ class_of b → number_of a ≡ number_of b → tie_of a ≡ tie_of b → a ≡ b
one_origin (Lapse k) (Lapse l) e f g = ap Lapse (same-letter k l f)
one_origin (Command m k) (Command n l) e f g = ap (λ n. Command n k) f ∙ ap (Command n) (same-command k l g)
one_origin (Lapse k) (Command n l) e f g = absurd (omega (arith, e))
one_origin (Command m k) (Lapse l) e f g = absurd (omega (arith, e))

one_message : (x y : Message) → x.moment ≡ y.moment → x.origin ≡ y.origin → x.name ≡ y.name → x.subject ≡ y.subject → x ≡ y
one_message x y a b c d = λ i. record { moment = a i; origin = b i; name = c i; subject = d i }

pub message_cmp_only : IsAntisymmetric message_cmp
message_cmp_only x y e =
    let sixth = then_equal _ _ e in
    let fifth = then_equal _ _ sixth.0 in
    let fourth = then_equal _ _ fifth.0 in
    let third = then_equal _ _ fourth.0 in
    let second = then_equal _ _ third.0 in
    one_message x y
    (nat_cmp-IsAntisymmetric x.moment y.moment second.0)
    (one_origin x.origin y.origin
    (nat_cmp-IsAntisymmetric (class_of x.origin) (class_of y.origin) second.1)
    (nat_cmp-IsAntisymmetric (number_of x.origin) (number_of y.origin) third.1)
    (nat_cmp-IsAntisymmetric (tie_of x.origin) (tie_of y.origin) sixth.1))
    (slice_cmp-IsAntisymmetric nat_cmp-IsAntisymmetric x.name y.name fourth.1)
    (same-subject x.subject y.subject (nat_cmp-IsAntisymmetric (subject_rank x.subject) (subject_rank y.subject) fifth.1))
