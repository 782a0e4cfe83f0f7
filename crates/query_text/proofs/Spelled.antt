-- That there is a function that gives each date its one written text: it looks through all times of the calendar.
use Rattle.std.proofs.Common.{◌≡◌, ℕ, zero, suc, ◌<◌, ℤ, pos, nat_le, Bool, true, false, ◌&&◌, List, [], refl, subst, arith, inl, inr, ◌⊎◌, ◌≢◌}
use Rattle.std.proofs.lemmas.Bool.{and_parts, cases_eq, false≢true, leb-true}
use Rattle.std.proofs.lemmas.Bool.Decides.{Decides-int_eq}
use Rattle.std.specs.Ordering.{int_eq}
use Rattle.jiff_core.specs.Calendar.{days_in_month}
use Rattle.schema_date.specs.Dates.{is_calendar_day}
use Rattle.schema_date.specs.DateTexts.{IsDateText, moment_of, written_time}
use Rattle.schema_date.proofs.OneDate.{written_date_is_one}
use Rattle.query_text.specs.Text.{Spelling, SpellsDates}

abbrev Decided : Type 0 → Type 0
Decided A = A ⊎ (A → ⊥)

abbrev SomeBelow : (ℕ → Type 0) → ℕ → Type 0
SomeBelow P n = (k : ℕ) × (k < n) × P k

-- one number after another is looked at
unfoldable look : (P : ℕ → Type 0) → ((k : ℕ) → Decided (P k)) → (n : ℕ) → Decided (SomeBelow P n)
look P dec zero = inr (λ w. omega (arith, w.1))
look P dec (suc n) = by (dec n) (look P dec n)
  where
    by : Decided (P n) → Decided (SomeBelow P n) → Decided (SomeBelow P (suc n))
    by (inl p) rest = inl (n, omega arith, p)
    by (inr none) (inl w) = inl (w.0, omega (arith, w.1), w.2)
    by (inr none) (inr before) = inr (λ w. last w (cases_eq w.0 n))
      where
        last : (w : SomeBelow P (suc n)) → (w.0 ≡ n) ⊎ (w.0 ≢ n) → ⊥
        last w (inl same) = none (subst P same w.2)
        last w (inr other) = before (w.0, omega (arith, w.1, other), w.2)

is_true : (b : Bool) → Decided (b ≡ true)
is_true true = inl refl
is_true false = inr (λ e. false≢true e)

abbrev moment_at : ℕ → ℕ → ℕ → ℕ → ℕ → ℕ → ℕ → ℤ
moment_at y m d h i s n = moment_of (record { year = y; month = m; day = d; hour = h; minute = i; second = s; nanosecond = n })

abbrev text_at : ℕ → ℕ → ℕ → ℕ → ℕ → ℕ → ℕ → List ℕ
text_at y m d h i s n = written_time (record { year = y; month = m; day = d; hour = h; minute = i; second = s; nanosecond = n })

abbrev is_time_at : ℤ → ℕ → ℕ → ℕ → ℕ → ℕ → ℕ → ℕ → Bool
is_time_at z y m d h i s n = is_calendar_day y m d && int_eq z (moment_at y m d h i s n)

abbrev InSecond : ℤ → ℕ → ℕ → ℕ → ℕ → ℕ → ℕ → Type 0
InSecond z y m d h i s = SomeBelow (λ n. is_time_at z y m d h i s n ≡ true) 1000000000

abbrev InMinute : ℤ → ℕ → ℕ → ℕ → ℕ → ℕ → Type 0
InMinute z y m d h i = SomeBelow (InSecond z y m d h i) 60

abbrev InHour : ℤ → ℕ → ℕ → ℕ → ℕ → Type 0
InHour z y m d h = SomeBelow (InMinute z y m d h) 60

abbrev InDay : ℤ → ℕ → ℕ → ℕ → Type 0
InDay z y m d = SomeBelow (InHour z y m d) 24

abbrev InMonth : ℤ → ℕ → ℕ → Type 0
InMonth z y m = SomeBelow (InDay z y m) (suc (days_in_month (pos y) m))

abbrev InYear : ℤ → ℕ → Type 0
InYear z y = SomeBelow (InMonth z y) 13

abbrev InCalendar : ℤ → Type 0
InCalendar z = SomeBelow (InYear z) 10000

unfoldable found : (z : ℤ) → Decided (InCalendar z)
found z = look (InYear z) (λ y. look (InMonth z y) (λ m. look (InDay z y m) (λ d. look (InHour z y m d) (λ h. look (InMinute z y m d h) (λ i. look (InSecond z y m d h i)
    (λ s. look (λ n. is_time_at z y m d h i s n ≡ true) (λ n. is_true (is_time_at z y m d h i s n)) 1000000000) 60) 60) 24) (suc (days_in_month (pos y) m))) 13) 10000

abbrev found_text : (z : ℤ) → InCalendar z → List ℕ
found_text z w = text_at w.0 w.2.0 w.2.2.0 w.2.2.2.0 w.2.2.2.2.0 w.2.2.2.2.2.0 w.2.2.2.2.2.2.0

is_its_text : (z : ℤ) (w : InCalendar z) → IsDateText z (found_text z w)
is_its_text z w =
    let at = moment_at w.0 w.2.0 w.2.2.0 w.2.2.2.0 w.2.2.2.2.0 w.2.2.2.2.2.0 w.2.2.2.2.2.2.0 in
    let parts = and_parts (is_calendar_day w.0 w.2.0 w.2.2.0) (int_eq z at) w.2.2.2.2.2.2.2 in (
      record { year = w.0; month = w.2.0; day = w.2.2.0; hour = w.2.2.2.0; minute = w.2.2.2.2.0; second = w.2.2.2.2.2.0; nanosecond = w.2.2.2.2.2.2.0 },
      ((parts.0, w.1), (w.2.2.2.1, w.2.2.2.2.1, w.2.2.2.2.2.1, w.2.2.2.2.2.2.1), (Decides-int_eq z at).0 parts.1),
      refl,
    )

is_found : (z : ℤ) (text : List ℕ) → IsDateText z text → InCalendar z
is_found z text h =
    let t = h.0 in
    let parts = and_parts (nat_le 1 t.year && (nat_le 1 t.month && nat_le t.month 12)) (nat_le 1 t.day && nat_le t.day (days_in_month (pos t.year) t.month)) h.1.0.0 in
    let months = and_parts (nat_le 1 t.year) (nat_le 1 t.month && nat_le t.month 12) parts.0 in
    let month = leb-true t.month 12 (and_parts (nat_le 1 t.month) (nat_le t.month 12) months.1).1 in
    let day = leb-true t.day (days_in_month (pos t.year) t.month) (and_parts (nat_le 1 t.day) (nat_le t.day (days_in_month (pos t.year) t.month)) parts.1).1 in (
      t.year,
      h.1.0.1,
      (
        t.month,
        omega (arith, month),
        (
          t.day,
          omega (arith, day),
          (
            t.hour,
            h.1.1.0,
            (
              t.minute,
              h.1.1.1,
              (
                t.second,
                h.1.1.2,
                (
                  t.nanosecond,
                  h.1.1.3,
                  (λ i. h.1.0.0 i && (Decides-int_eq z (moment_of t)).1 h.1.2 i),
                ),
              ),
            ),
          ),
        ),
      ),
    )

abbrev text_of : (z : ℤ) → Decided (InCalendar z) → List ℕ
text_of z (inl w) = found_text z w
text_of z (inr none) = []

abbrev spelling : Spelling
spelling z = text_of z (found z)

pub spelled : (spell : Spelling) × SpellsDates spell
spelled = (spelling, λ z text h. by z text h (found z))
  where
    by : (z : ℤ) (text : List ℕ) → IsDateText z text → (o : Decided (InCalendar z)) → text_of z o ≡ text
    by z text h (inl w) = written_date_is_one z (found_text z w) text (is_its_text z w) h
    by z text h (inr none) = absurd (none (is_found z text h))
