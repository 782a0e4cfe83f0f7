-- What is put behind the last pack arrives last.
use Rattle.std.proofs.Common.{◌≡◌, ◌≢◌, ℕ, suc, ◌+◌, ◌≤◌, ◌<◌, Bool, true, false, cond, ◌||◌, T, Option, None, Some, List, [], ◌∷◌, ◌++◌, length, map, refl, sym, ap, subst, ◌∙◌, arith, nat_eq, length-append}
use Rattle.std.specs.List.{list_any}
use Rattle.std.specs.Map.{lookup}
use Rattle.std.specs.Option.{is_some, unwrap_or}
use Rattle.std.specs.Ordering.{nat_cmp}
use Rattle.std.specs.declared.cmp.Ordering.TheVariants.{Equal, Greater}
use Rattle.std.specs.Cmp.{nat_cmp_total, nat_cmp_is}
use Rattle.std.specs.Cmp.Lexicographic.{pointwise, nat_list_eq_equiv}
use Rattle.std.specs.FinMap.{entries, entries_sorted, entries-insert, find, get, get-entries, insert, put, is_sorted}
use Rattle.std.specs.FinMap.Entries.{below_all, by_order}
use Rattle.std.proofs.lemmas.Bool.{and_parts}
use Rattle.std.proofs.lemmas.List.{append-nil, map-append}
use Rattle.blobref.specs.Blobref.{IsOwnRef}
use Rattle.pack_format.specs.Header.{max_size, record_under}
use Rattle.salvage_scan.specs.Salvage.{salvage, salvage_past, broken_past, IsClean}
use Rattle.salvage_scan.specs.Rules.{finding_under}
use Rattle.salvage_scan.specs.Arrivals.{blob_of, arrive, arrivals}
use Rattle.salvage_scan.proofs.Arriving.{arrive-append, arrivals-pack}
use Rattle.salvage_scan.proofs.Packs.{clean_packs}
use Rattle.pack_disk.specs.Packs.{Packs}
use Rattle.pack_disk.specs.Disk.{Tells}
use Rattle.pack_store.specs.declared.rows.Current.{Current}
use Rattle.pack_store.specs.Adding.{AddsRecord}
use Rattle.pack_store.specs.Opening.{next_of, current_if_clean, current_of}
use Rattle.pack_store.specs.Putting.{pack_of, fill_of}
use Rattle.pack_store.proofs.Packing.{next_after, current_after, end_of}
use Rattle.pack_store.proofs.Held.{true_from_T, T_from_true, tied, untied}
use Rattle.pack_store.proofs.Walking.{less_of}

abbrev Entry : Type 0
Entry = ℕ × List ℕ

greater : (n k : ℕ) → k < n → nat_cmp n k ≡ Greater
greater n k lt = sym (nat_cmp_is n k Greater lt)

-- ---- entries at or above the greatest number

put_above : (n : ℕ) (pack : List ℕ) (es : List Entry) → next_of es ≤ n → put nat_cmp n pack es ≡ es ++ (n, pack) ∷ []
put_above n pack [] le = refl
put_above n pack (e ∷ es) le =
    ap (λ o. by_order o ((n, pack) ∷ e ∷ es) ((e.0, pack) ∷ es) (e ∷ put nat_cmp n pack es)) (greater n e.0 (omega (arith, le)))
    ∙ ap (λ l. e ∷ l) (put_above n pack es (omega (arith, le)))

find_above : (n : ℕ) (es : List Entry) → next_of es ≤ n → find nat_cmp n es ≡ None
find_above n [] le = refl
find_above n (e ∷ es) le = let other : n ≢ e.0 = omega (arith, le) in ap (λ b. cond b (Some e.1) (find nat_cmp n es)) (untied n e.0 other) ∙ find_above n es (omega (arith, le))

find_last : (n : ℕ) (pack : List ℕ) (front : List Entry) → next_of front ≤ n → find nat_cmp n (front ++ (n, pack) ∷ []) ≡ Some pack
find_last n pack [] le = ap (λ b. cond b (Some pack) None) (tied n n refl)
find_last n pack (e ∷ front) le = let other : n ≢ e.0 = omega (arith, le) in ap (λ b. cond b (Some e.1) (find nat_cmp n (front ++ (n, pack) ∷ []))) (untied n e.0 other) ∙ find_last n pack front (omega (arith, le))

put_last : (n : ℕ) (had pack : List ℕ) (front : List Entry) → next_of front ≤ n → put nat_cmp n pack (front ++ (n, had) ∷ []) ≡ front ++ (n, pack) ∷ []
put_last n had pack [] le = ap (λ o. by_order o ((n, pack) ∷ (n, had) ∷ []) ((n, pack) ∷ []) ((n, had) ∷ put nat_cmp n pack [])) (sym (nat_cmp_is n n Equal refl))
put_last n had pack (e ∷ front) le =
    ap (λ o. by_order o ((n, pack) ∷ e ∷ (front ++ (n, had) ∷ [])) ((e.0, pack) ∷ (front ++ (n, had) ∷ [])) (e ∷ put nat_cmp n pack (front ++ (n, had) ∷ []))) (greater n e.0 (omega (arith, le)))
    ∙ ap (λ l. e ∷ l) (put_last n had pack front (omega (arith, le)))

-- in entries that rise, all before the last are below it
above_last : (k n : ℕ) (pack : List ℕ) (front : List Entry) → T (below_all nat_cmp k (front ++ (n, pack) ∷ [])) → k < n
above_last k n pack [] high = less_of k n (and_parts _ _ (true_from_T _ high)).0
above_last k n pack (e ∷ front) high = above_last k n pack front (T_from_true _ (and_parts _ _ (true_from_T _ high)).1)

front_below : (n : ℕ) (pack : List ℕ) (front : List Entry) → T (is_sorted nat_cmp (front ++ (n, pack) ∷ [])) → next_of front ≤ n
front_below n pack [] sorted = omega arith
front_below n pack (e ∷ front) sorted =
    let parts = and_parts (below_all nat_cmp e.0 (front ++ (n, pack) ∷ [])) (is_sorted nat_cmp (front ++ (n, pack) ∷ [])) (true_from_T _ sorted) in
    omega (arith, above_last e.0 n pack front (T_from_true _ parts.0), front_below n pack front (T_from_true _ parts.1))

-- ---- the last pack

pub record IsLast (es : List Entry) (c : Current) : Type 0 where
  pub front : List Entry
  pub pack : List ℕ
  pub split : es ≡ front ++ (c.pack, pack) ∷ []
  pub clean : IsClean pack
  pub long : c.size ≡ length pack

last_of : (es : List Entry) (c : Current) → current_of es ≡ Some c → IsLast es c
last_of [] c is = absurd (cc is)
last_of (e ∷ []) c is = let end = end_of e.0 e.1 c is in record { front = []; pack = e.1; split = ap (λ n. (n, e.1) ∷ []) (sym end.number); clean = end.clean; long = end.long }
last_of (e ∷ f ∷ es) c is = let rest = last_of (f ∷ es) c is in record { front = e ∷ rest.front; pack = rest.pack; split = ap (λ l. e ∷ l) rest.split; clean = rest.clean; long = rest.long }

-- ---- where the next record goes

-- a record goes behind what a pack has, which is clean; the packs in front are below it
pub record GoesBehind (held : Packs) (n size : ℕ) : Type 0 where
  pub front : List Entry
  pub pack : List ℕ
  pub low : next_of front ≤ n
  pub clean : IsClean pack
  pub long : size ≡ length pack
  pub had : unwrap_or (get held n) [] ≡ pack
  pub so_far : arrivals (entries held) ≡ arrive (arrivals front) (map blob_of (salvage pack))
  pub puts : (more : List ℕ) → entries (insert held n more) ≡ front ++ (n, more) ∷ []

nothing_broken : IsClean []
unfolding broken_past
nothing_broken = refl

nothing_found : salvage [] ≡ []
unfolding salvage_past
nothing_found = refl

behind_all : (held : Packs) (n : ℕ) → n ≡ next_of (entries held) → GoesBehind held n 0
behind_all held n is =
    let low : next_of (entries held) ≤ n = omega (arith, is) in
    record {
      front = entries held;
      pack = [];
      low = low;
      clean = nothing_broken;
      long = refl;
      had = ap (λ o. unwrap_or o []) (get-entries held n ∙ find_above n (entries held) low);
      so_far = ap (λ fs. arrive (arrivals (entries held)) (map blob_of fs)) (sym nothing_found);
      puts = λ more. entries-insert nat_cmp_total held n more ∙ put_above n more (entries held) low;
    }

behind_last : (held : Packs) (c : Current) → current_of (entries held) ≡ Some c → GoesBehind held c.pack c.size
behind_last held c is =
    let l = last_of (entries held) c is in
    let low : next_of l.front ≤ c.pack = front_below c.pack l.pack l.front (subst (λ es. T (is_sorted nat_cmp es)) l.split (entries_sorted held)) in
    record {
      front = l.front;
      pack = l.pack;
      low = low;
      clean = l.clean;
      long = l.long;
      had = ap (λ o. unwrap_or o []) (get-entries held c.pack ∙ ap (find nat_cmp c.pack) l.split ∙ find_last c.pack l.pack l.front low);
      so_far = ap arrivals l.split ∙ arrivals-pack l.front c.pack l.pack;
      puts = λ more. entries-insert nat_cmp_total held c.pack more ∙ ap (put nat_cmp c.pack more) l.split ∙ put_last c.pack l.pack more l.front low;
    }

-- the store's next record does
pub goes_behind : (held : Packs) (next : ℕ) (current : Option Current) (needs : Bool) → next ≡ next_of (entries held) → current ≡ current_of (entries held) → (current ≡ None → needs ≡ true)
    → GoesBehind held (pack_of needs next current) (fill_of needs current)
goes_behind held next current true next_is current_is filled = behind_all held next next_is
goes_behind held next None false next_is current_is filled = absurd (let bad : false ≡ true = filled refl in cc bad)
goes_behind held next (Some c) false next_is current_is filled = behind_last held c (sym current_is)

-- ---- what arrives

absent : (r : List ℕ) (before : List (List ℕ × List ℕ)) → lookup (pointwise nat_eq r) before ≡ None → list_any (λ (a : List ℕ × List ℕ). pointwise nat_eq a.0 r) before ≡ false
absent r [] is = refl
absent r (a ∷ before) is = go (pointwise nat_eq r a.0) (nat_list_eq_equiv.symm a.0 r) is (absent r before)
  where
    go : (b : Bool) → pointwise nat_eq a.0 r ≡ b → cond b (Some a.1) (lookup (pointwise nat_eq r) before) ≡ None
        → (lookup (pointwise nat_eq r) before ≡ None → list_any (λ (x : List ℕ × List ℕ). pointwise nat_eq x.0 r) before ≡ false)
        → (pointwise nat_eq a.0 r || list_any (λ (x : List ℕ × List ℕ). pointwise nat_eq x.0 r) before) ≡ false
    go true same here more = absurd (cc here)
    go false other later more = ap (λ b. b || list_any (λ (x : List ℕ × List ℕ). pointwise nat_eq x.0 r) before) other ∙ more later

-- a record behind what is clean is found last
found_last : (pack r bytes : List ℕ) → IsOwnRef r bytes → length bytes ≤ max_size → IsClean pack → salvage (pack ++ record_under r bytes) ≡ salvage pack ++ finding_under (length pack) r bytes ∷ []
unfolding salvage_past
found_last pack r bytes own small clean = ap salvage (sym (append-nil (pack ++ record_under r bytes))) ∙ clean_packs.found pack r bytes [] own small clean

-- a blob that hasn't arrived is the last arrival
pub arrives_last : (held now : Packs) (n size : ℕ) (r bytes : List ℕ) → GoesBehind held n size → IsOwnRef r bytes → length bytes ≤ max_size
    → lookup (pointwise nat_eq r) (arrivals (entries held)) ≡ None → AddsRecord n r bytes held now
    → arrivals (entries now) ≡ arrivals (entries held) ++ (r, bytes) ∷ []
arrives_last held now n size r bytes g own small none added =
    let pack = g.pack ++ record_under r bytes in
    let now_is : entries now ≡ g.front ++ (n, pack) ∷ [] = ap entries added ∙ ap (λ l. entries (insert held n (l ++ record_under r bytes))) g.had ∙ g.puts pack in
    let found : map blob_of (salvage pack) ≡ map blob_of (salvage g.pack) ++ (r, bytes) ∷ [] = ap (map blob_of) (found_last g.pack r bytes own small g.clean) ∙ map-append blob_of (salvage g.pack) (finding_under (length g.pack) r bytes ∷ []) in
    let so_far : arrive (arrivals g.front) (map blob_of (salvage g.pack)) ≡ arrivals (entries held) = sym g.so_far in
    ap arrivals now_is ∙ arrivals-pack g.front n pack ∙ ap (arrive (arrivals g.front)) found
    ∙ arrive-append (map blob_of (salvage g.pack)) ((r, bytes) ∷ []) (arrivals g.front)
    ∙ ap (λ before. arrive before ((r, bytes) ∷ [])) so_far
    ∙ ap (λ b. cond b (arrivals (entries held)) (arrivals (entries held) ++ (r, bytes) ∷ [])) (absent r (arrivals (entries held)) none)

-- ---- where the record after it goes

clean_current : (n : ℕ) (pack : List ℕ) → IsClean pack → current_if_clean (n, pack) ≡ Some (record { pack = n; size = length pack })
clean_current n pack clean = ap (λ o. cond (is_some o) None (Some (record { pack = n; size = length pack }))) clean

pub ends_current : (held now : Packs) (n size : ℕ) (r bytes : List ℕ) → GoesBehind held n size → IsOwnRef r bytes → length bytes ≤ max_size → AddsRecord n r bytes held now
    → Some (record { pack = n; size = size + length (record_under r bytes) }) ≡ current_of (entries now)
ends_current held now n size r bytes g own small added =
    let pack = g.pack ++ record_under r bytes in
    let now_is : entries now ≡ g.front ++ (n, pack) ∷ [] = ap entries added ∙ ap (λ l. entries (insert held n (l ++ record_under r bytes))) g.had ∙ g.puts pack in
    let long : length pack ≡ size + length (record_under r bytes) = omega (arith, length-append g.pack (record_under r bytes), g.long) in
    ap (λ k. Some (record { pack = n; size = k })) (sym long) ∙ sym (ap current_of now_is ∙ current_after g.front n pack ∙ clean_current n pack (clean_packs.again g.pack r bytes own small g.clean))

pub ends_next : (held now : Packs) (n size : ℕ) (r bytes : List ℕ) → GoesBehind held n size → AddsRecord n r bytes held now → suc n ≡ next_of (entries now)
ends_next held now n size r bytes g added =
    let pack = g.pack ++ record_under r bytes in
    let now_is : entries now ≡ g.front ++ (n, pack) ∷ [] = ap entries added ∙ ap (λ l. entries (insert held n (l ++ record_under r bytes))) g.had ∙ g.puts pack in
    sym (ap next_of now_is ∙ next_after g.front n pack g.low)

-- the next number is one more than that of the record's pack
pub next_behind : (held : Packs) (next : ℕ) (current : Option Current) (needs : Bool) → next ≡ next_of (entries held) → current ≡ current_of (entries held) → (current ≡ None → needs ≡ true)
    → cond needs (suc next) next ≡ suc (pack_of needs next current)
next_behind held next current true next_is current_is filled = refl
next_behind held next None false next_is current_is filled = absurd (let bad : false ≡ true = filled refl in cc bad)
next_behind held next (Some c) false next_is current_is filled =
    let l = last_of (entries held) c (sym current_is) in
    let low : next_of l.front ≤ c.pack = front_below c.pack l.pack l.front (subst (λ es. T (is_sorted nat_cmp es)) l.split (entries_sorted held)) in
    next_is ∙ ap next_of l.split ∙ next_after l.front c.pack l.pack low

-- what two disks tell has what holds of the two
pub told_both : (a b : Option Packs) (P : Packs → Packs → Type 0) (before now : Packs) → a ≡ Some before → b ≡ Some now → Tells a b P → P before now
told_both a b P before now is_before is_now tells = subst (λ o. Tells (Some before) o P) is_now (subst (λ o. Tells o b P) is_before tells)
