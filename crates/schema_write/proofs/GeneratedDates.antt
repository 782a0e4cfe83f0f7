-- The written date of each blob of a generated store.
use Rattle.std.proofs.Common.{◌≡◌, ◌<◌, ◌+◌, ◌*◌, ◌/◌, ◌%◌, ℕ, true, pos, List, refl, ap, sym, ◌∙◌, arith}
use Rattle.jiff_core.specs.Calendar.{days_from_civil, days_in_month}
use Rattle.jiff_core.proofs.MarchLemmas.{day_count-early}
use Rattle.jiff_core.specs.March.{march_days, march_months}
use Rattle.jiff_core.proofs.CalendarLemmas.{days_from_civil-day_count}
use Rattle.jiff_core.proofs.SignedLemmas.{signed_arith}
use Rattle.schema_date.specs.Dates.{is_calendar_day, moment}
use Rattle.schema_date.specs.DateTexts.{IsDateText}
use Rattle.schema_date.proofs.Calendar.{is_day}
use Rattle.schema_date.proofs.OneDate.{written_date_is_one}
use Rattle.schema_write.specs.Generated.{date_at, date_text}

day_number : (k : ℕ) → days_from_civil (pos 2020) 1 (1 + k) ≡ pos (18262 + k)
day_number k =
    let base : march_days 12019 + march_months 13 ≡ 4390155 = refl in
    let counted = day_count-early (pos 2020) 12019 1 (1 + k) refl (omega arith) (omega arith) (omega arith) in
    omega (arith, signed_arith, base, counted, days_from_civil-day_count (pos 2020) 1 (1 + k))

is_day_at : (i : ℕ) → i < 100000 → is_calendar_day 2020 1 (1 + i / 86400) ≡ true
is_day_at i few =
    let most : days_in_month (pos 2020) 1 ≡ 31 = refl in
    is_day 2020 1 (1 + i / 86400) (omega arith) (omega arith) (omega arith) (omega arith) (omega (arith, few, most))

hours : (i : ℕ) → i / 3600 / 24 ≡ i / 86400
hours i = omega arith

minutes : (i : ℕ) → i / 60 / 60 ≡ i / 3600
minutes i = omega arith

seconds_at : (i : ℕ) → (18262 + i / 86400) * 86400 + ((i / 3600 % 24) * 3600 + (i / 60 % 60) * 60 + i % 60) ≡ 1577836800 + i
seconds_at i = omega (arith, hours i, minutes i)

moment_at : (i : ℕ) → date_at i
    ≡ moment (days_from_civil (pos 2020) 1 (1 + i / 86400)) ((i / 3600 % 24) * 3600 + (i / 60 % 60) * 60 + i % 60) 0 (pos 0)
moment_at i =
    ap (λ n. pos (n * 1000000000)) (sym (seconds_at i)) ∙ plain (18262 + i / 86400) ((i / 3600 % 24) * 3600 + (i / 60 % 60) * 60 + i % 60)
    ∙ ap (λ day. moment day ((i / 3600 % 24) * 3600 + (i / 60 % 60) * 60 + i % 60) 0 (pos 0)) (sym (day_number (i / 86400)))
  where
    plain : (day seconds : ℕ) → pos ((day * 86400 + seconds) * 1000000000) ≡ moment (pos day) seconds 0 (pos 0)
    plain day seconds = omega (arith, signed_arith)

dated : (i : ℕ) → i < 100000 → IsDateText (date_at i) (date_text i)
dated i few = (
  record {
    year = 2020;
    month = 1;
    day = 1 + i / 86400;
    hour = i / 3600 % 24;
    minute = i / 60 % 60;
    second = i % 60;
    nanosecond = 0;
  },
  ((is_day_at i few, omega arith), (omega arith, omega arith, omega arith, omega arith), moment_at i),
  refl,
)

-- what is written for that date is this text
pub date_written : (i : ℕ) (text : List ℕ) → i < 100000 → IsDateText (date_at i) text → text ≡ date_text i
date_written i text few is = written_date_is_one (date_at i) text (date_text i) is (dated i few)
