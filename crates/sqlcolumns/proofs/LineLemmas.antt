-- A line is read from its row, and from no other.
use Rattle.std.proofs.{Common.{arith, ◌≡◌, ℤ, Option, Some, None, IfSome, sym, ap, ◌∙◌}, lemmas.{Bool.Decides.nat_tests, Int.ints}}
use Rattle.std.specs.Prelude.{option_map}
use Rattle.objects.specs.declared.roid.{ObjectKind.TheVariants.Domain, Roid.Roid}
use Rattle.accounts.specs.declared.line.Line.{Line}
use Rattle.sqltables.specs.declared.line.LineRow.{LineRow}
use Rattle.sqlcolumns.specs.declared.{line.DomainColumns.DomainColumns, roid.RoidColumns.RoidColumns}
use Rattle.sqlcolumns.specs.Codes.{all_kinds, kind_column, kind_in}
use Rattle.sqlcolumns.specs.Numbers.{exact_column, exact_in, maybe_moment_in, moment_in_column, years_in_column}
use Rattle.sqlcolumns.specs.{Roids.{IsRoid, roid_in}, Steps.◌>>=◌}
use Rattle.sqlcolumns.specs.inner.Lines.{IsStorableLine, domain_columns, line_row_with, not_null, row_of_line}
use Rattle.sqlcolumns.specs.Lines.{line_of_columns, maybe_domain_in}
use Rattle.sqlcolumns.proofs.CodeLemmas.{code_written, kind_back}
use Rattle.sqlcolumns.proofs.NumberLemmas.{exact_back}
use Rattle.sqlcolumns.proofs.{ReadLemmas.{same_some, some_read, step}, RoidLemmas.{roid_back, roid_written}}

-- ---- the domain of a line

abbrev domain_in : DomainColumns → Option (Option Roid)
domain_in columns = maybe_domain_in columns.creator columns.serial

maybe_domain_back : (roid : Option Roid) (columns : DomainColumns) → IfSome roid IsRoid → domain_columns roid ≡ Some columns → maybe_domain_in columns.creator columns.serial ≡ Some roid
maybe_domain_back None columns is e = grind (arith, e)
maybe_domain_back (Some roid) columns is e = grind (arith, (λ (c : RoidColumns). roid_back Domain roid c is), e)

maybe_domain_written : (creator serial : Option ℤ) (roid : Option Roid) → maybe_domain_in creator serial ≡ Some roid → domain_columns roid ≡ Some (record { creator = creator; serial = serial })
maybe_domain_written None None roid e = grind (arith, e)
maybe_domain_written (Some c) (Some s) roid e =
    some_read (roid_in Domain c s) roid (λ x. domain_columns x ≡ Some (record { creator = Some c; serial = Some s })) (λ r read. ap (option_map not_null) (roid_written Domain c s r read)) e
maybe_domain_written c s roid e = cc

-- ---- written

-- what was written is read back
pub line_back : (id account : ℤ) (line : Line) (ends : Option ℤ) (row : LineRow) → IsStorableLine line → row_of_line id account line ends ≡ Some row → line_of_columns row ≡ Some line
line_back id account line ends row is e =
    let domain = step (domain_columns line.roid) (λ d. exact_column line.cents >>= (λ c. Some (line_row_with id account line ends d c))) row e in
    let cents = step (exact_column line.cents) (λ c. Some (line_row_with id account line ends domain.given c)) row domain.rest in
    let domain_read = maybe_domain_back line.roid domain.given is.roid domain.is in
    let cents_read = exact_back line.cents cents.given cents.is in
    sym (ap line_of_columns (same_some (line_row_with id account line ends domain.given cents.given) row cents.rest))
    ∙ grind (arith, nat_tests, is, kind_back line.kind, domain_read, cents_read)

-- ---- read

-- each column reads as the line's
pub record IsRead (row : LineRow) (line : Line) : Type 0 where
  pub kind : kind_in row.kind ≡ Some line.kind
  pub roid : maybe_domain_in row.creator row.serial ≡ Some line.roid
  pub recorded : moment_in_column row.recorded ≡ Some line.recorded
  pub years : years_in_column row.years ≡ Some line.years
  pub cents : exact_in row.cents ≡ Some line.cents
  pub started : maybe_moment_in row.grace.started ≡ Some line.started
  pub refunded : maybe_moment_in row.refunded ≡ Some line.refunded

pub is_read : (row : LineRow) (line : Line) → line_of_columns row ≡ Some line → IsRead row line
is_read row line e =
    let kind = step (kind_in row.kind) _ line e in
    let roid = step (maybe_domain_in row.creator row.serial) _ line kind.rest in
    let recorded = step (moment_in_column row.recorded) _ line roid.rest in
    let years = step (years_in_column row.years) _ line recorded.rest in
    let cents = step (exact_in row.cents) _ line years.rest in
    let started = step (maybe_moment_in row.grace.started) _ line cents.rest in
    let refunded = step (maybe_moment_in row.refunded) _ line started.rest in
    let same : ◌≡◌ {A = Line} (record { kind = kind.given; roid = roid.given; recorded = recorded.given; years = years.given; cents = cents.given; started = started.given; refunded = refunded.given }) line = same_some _ _ refunded.rest in
    record {
      kind = kind.is ∙ λ i. Some ((same i).kind);
      roid = roid.is ∙ λ i. Some ((same i).roid);
      recorded = recorded.is ∙ λ i. Some ((same i).recorded);
      years = years.is ∙ λ i. Some ((same i).years);
      cents = cents.is ∙ λ i. Some ((same i).cents);
      started = started.is ∙ λ i. Some ((same i).started);
      refunded = refunded.is ∙ λ i. Some ((same i).refunded);
    }

-- what is read was written so
pub line_written : (row : LineRow) (line : Line) → line_of_columns row ≡ Some line → row_of_line row.id row.account line row.grace.ends ≡ Some row
line_written row line e =
    let read = is_read row line e in
    let domain = maybe_domain_written row.creator row.serial line.roid read.roid in
    let kind = code_written kind_column all_kinds row.kind line.kind read.kind in
    grind (arith, ints, nat_tests, read, domain, kind)
