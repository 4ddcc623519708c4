-- Clock times and how they are written. Assumes nothing.
use Rattle.std.specs.Prelude.{ℕ, ◌*◌, ◌/◌, ◌%◌, List, ◌++◌, codes, decimal}
use Rattle.clock.specs.declared.ClockTime.{ClockTime}

-- where a quarter hour begins: four to an hour, 15 minutes each
abbrev pub clock_of : ℕ → ClockTime
clock_of q = record { hour = q / 4; minute = q % 4 * 15 }

abbrev pub two_digits : ℕ → List ℕ
two_digits n = decimal (n / 10) ++ decimal (n % 10)

abbrev pub clock_text : ClockTime → List ℕ
clock_text t = two_digits t.hour ++ (codes ":" ++ two_digits t.minute)
