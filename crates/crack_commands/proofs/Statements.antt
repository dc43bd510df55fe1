-- The meaning of statements over ranges.
use Rattle.std.proofs.Common.{◌≡◌, ℕ, Bool, true, false, cond, Option, Some, None, Result, Ok, Err, refl}
use Rattle.crack_row.specs.Ranges.{Range}
use Rattle.crack_row.specs.declared.refusal.Refusal.{Refusal}
use Rattle.crack_row.specs.declared.refusal.Refusal.TheVariants.{BadRange}
use Rattle.crack_commands.specs.declared.statement.Statement.{Statement}
use Rattle.crack_commands.specs.Grammar.{Reading, over}
use Rattle.crack_commands.specs.Inside.{range_from}

abbrev of_range : (statement : Range → Statement) → Result Range Refusal → Reading
of_range statement (Ok range) = Ok (statement range)
of_range statement (Err e) = Err e

good_or_bad : (statement : Range → Statement) (is_good : Bool) (range : Range) → cond is_good (Ok (statement range)) (Err BadRange) ≡ of_range statement (cond is_good (Ok range) (Err BadRange))
good_or_bad statement true range = refl
good_or_bad statement false range = refl

over_is : (statement : Range → Statement) (pair : Option (ℕ × ℕ)) → over statement pair ≡ of_range statement (range_from pair)
over_is statement (Some (low, high)) = good_or_bad statement _ (record { low = low; high = high })
over_is statement None = refl

pub over_ok : (statement : Range → Statement) (pair : Option (ℕ × ℕ)) (range : Range) → range_from pair ≡ Ok range → over statement pair ≡ Ok (statement range)
over_ok statement pair range e = rw (over_is statement pair, e) refl

pub over_err : (statement : Range → Statement) (pair : Option (ℕ × ℕ)) (e : Refusal) → range_from pair ≡ Err e → over statement pair ≡ Err e
over_err statement pair e same = rw (over_is statement pair, same) refl
