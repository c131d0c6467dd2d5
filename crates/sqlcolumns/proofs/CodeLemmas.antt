-- The variant with a code has that code, and each variant is found by its own.
use Rattle.std.proofs.{Common.{rules, ◌≡◌, ℤ, List, Some, ap, ◌∙◌}, lemmas.Bool.Decides.Decides-int_eq}
use Rattle.std.specs.Ordering.{int_eq}
use Rattle.accounts.specs.declared.{line.LineKind.LineKind, message.Subject.Subject}
use Rattle.objects.specs.declared.transfer.TransferState.{TransferState}
use Rattle.sqlcolumns.specs.declared.code.Role.{Role}
use Rattle.sqlcolumns.specs.Codes.{with_code, kind_column, kind_in, all_subjects, subject_column, subject_in, state_column, state_in, role_column, role_in}
use Rattle.sqlcolumns.proofs.ReadLemmas.{found_passes}

-- what is read has this code
pub code_written : {K : Type 0} (code : K → ℤ) (all : List K) (c : ℤ) (k : K) → with_code code all c ≡ Some k → code k ≡ c
code_written code all c k e = (Decides-int_eq (code k) c).0 (found_passes (λ x. int_eq (code x) c) all k e)

-- and where each is found by its code, what has this code is read
pub found_by_code : {K : Type 0} (code : K → ℤ) (all : List K) (c : ℤ) (k : K) → ((k : K) → with_code code all (code k) ≡ Some k) → c ≡ code k → with_code code all c ≡ Some k
found_by_code code all c k back e = ap (with_code code all) e ∙ back k

-- ---- for each enum

pub kind_back : (k : LineKind) → kind_in (kind_column k) ≡ Some k
kind_back k = search rules

pub subject_back : (s : Subject) → subject_in (subject_column s) ≡ Some s
subject_back s = search rules

pub subject_written : (c : ℤ) (s : Subject) → subject_in c ≡ Some s → subject_column s ≡ c
subject_written c s e = code_written subject_column all_subjects c s e

pub state_back : (s : TransferState) → state_in (state_column s) ≡ Some s
state_back s = search rules

pub role_back : (r : Role) → role_in (role_column r) ≡ Some r
role_back r = search rules
