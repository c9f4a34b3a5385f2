-- Settings pass the check exactly where every coding is accepted and no two fields conflict; an image is good exactly where every reading is accepted
-- and no two fields conflict. Assumes nothing.
use mathlib.Core.Path.{◌≡◌, refl, sym, ap, ◌∙◌}
use mathlib.Core.Bool.{Bool, false}
use mathlib.Core.List.{List, [], flat_map}
use Prim.Native.Nat.{ℕ}
use lib.Dec.{T, eqb}
use lib.IntN.{ℤ}
use Rattle.refusals.specs.Refusal.{Judged, accepted, refused, refused_by, value_or}
use Rattle.refusals.specs.Verdict.{good}
use Rattle.refusals.specs.Order.{places_at, places_in}
use Rattle.field_table.specs.Walk.{given, coding_of, reading_of}
use Rattle.adv7194_table.specs.Fields.{standard, oversampling, pedestal, timing, output, picture, dnr}
use Rattle.adv7194_table.specs.Blocks.{signalling}
use Rattle.adv7194_table.specs.Table.{Entry, single, whole, table, order_of}
use Rattle.adv7194_signalling.specs.Signalling.{signalling_conflict, held_conflict}
use Rattle.adv7194_settings.specs.Codes.{numbers_in}
use Rattle.adv7194_settings.specs.Held.{bytes_in, setting_held, settings_held}
use Rattle.adv7194_settings.specs.Order.{order}
use Rattle.adv7194_settings.specs.Rows.{square_with_oversampling, pedestal_with_pal, coding_refused, reading_refused, some_of}
use Rattle.adv7194_settings.specs.Rows.{row_holds, row_held, check_of, judge_of}
use Rattle.adv7194_round_trip.specs.Entries.{alone, codes_of, entry_reading}
use Rattle.adv7194_round_trip.proofs.FirstLaws.{among, cleared, all-clear, chosen_fails, and_fails}
use Rattle.adv7194_round_trip.proofs.EntryLaws.{All, all_map, all_zip, all_singles, every_field, none_meets, meets_none}
use Rattle.adv7194_round_trip.proofs.SoundLaws.{sound, Clear, is-accepted, codes-sound, conflict_in, reading_sound}

-- ---- the places of the order

-- rows 3, 4 and 8 are at every field
every_3 : T (every_field (among order 3) table)
unfolding order places_in places_at order_of table timing output picture dnr flat_map
every_3 = tt

every_4 : T (every_field (among order 4) table)
unfolding order places_in places_at order_of table timing output picture dnr flat_map
every_4 = tt

every_8 : T (every_field (among order 8) table)
unfolding order places_in places_at order_of table timing output picture dnr flat_map
every_8 = tt

-- rows 5, 6 and 7 at their own
place_5 : T (among order 5 oversampling.row.field)
unfolding order places_in places_at order_of table timing output picture dnr flat_map
place_5 = tt

place_6 : T (among order 6 pedestal.row.field)
unfolding order places_in places_at order_of table timing output picture dnr flat_map
place_6 = tt

place_7 : T (among order 7 signalling.field)
unfolding order places_in places_at order_of table timing output picture dnr flat_map
place_7 = tt

-- answers for each entry, none of which one of these rows refuses
each-clear : {A : Type 0} (answer : Entry → Judged A) (rows : ℕ → Entry → Bool) → ((n : ℕ) (e : Entry) → rows n e ≡ refused_by n (answer e))
    → ((f : ℕ) → T (among order 3 f) → some_of (rows 3) f table ≡ false) → ((f : ℕ) → T (among order 4 f) → some_of (rows 4) f table ≡ false)
    → ((f : ℕ) → T (among order 8 f) → some_of (rows 8) f table ≡ false) → All (λ e. Clear (answer e)) table
each-clear answer rows same three four eight =
    let by : ℕ → Entry → Type 0 = λ n e. rows n e ≡ false in
    all_zip (by 3) (λ e. by 4 e × by 8 e) (λ e. Clear (answer e))
    (λ e p q. record { not_3 = sym (same 3 e) ∙ p; not_4 = sym (same 4 e) ∙ q.0; not_8 = sym (same 8 e) ∙ q.1 }) table
    (none_meets (rows 3) (among order 3) table every_3 three)
    (all_zip (by 4) (by 8) (λ e. by 4 e × by 8 e) (λ e p q. (p, q)) table
    (none_meets (rows 4) (among order 4) table every_4 four)
    (none_meets (rows 8) (among order 8) table every_8 eight))

-- the list of one value is refused where the value is
alone-refused : {A : Type 0} (n : ℕ) (j : Judged A) → refused_by n j ≡ refused_by n (alone j)
alone-refused n (accepted a) = refl
alone-refused n (refused m) = refl

-- so the rows go by an entry's codes
coding-refused : (zs : List ℤ) (n : ℕ) (e : Entry) → coding_refused zs n e ≡ refused_by n (codes_of zs e)
coding-refused zs n (single f) = alone-refused n (coding_of zs f)
coding-refused zs n (whole c b) = refl

-- and by its reading
reading_refused_lem : (image : List ℕ) (n : ℕ) (e : Entry) → reading_refused image n e ≡ refused_by n (entry_reading image e)
reading_refused_lem image n (single f) = alone-refused n (reading_of image f)
reading_refused_lem image n (whole c b) = refl

-- ---- settings

-- a coding is accepted
abbrev pub Taken : List ℤ → Entry → Type 0
Taken zs e = codes_of zs e ≡ accepted (value_or [] (codes_of zs e))

-- every coding is, and no two fields conflict
pub record Passing (zs : List ℤ) : Type 0 where
  pub taken : All (Taken zs) table
  pub no_5 : square_with_oversampling zs ≡ false
  pub no_6 : pedestal_with_pal zs ≡ false
  pub no_7 : signalling_conflict (given zs standard.row) (numbers_in zs signalling) ≡ false

-- such settings pass the check
pub passing : (zs : List ℤ) → Passing zs → check_of zs ≡ good tt
unfolding check_of row_holds
passing zs p =
    all-clear (row_holds zs) order tt (λ n f.
    chosen_fails (eqb n 5) (and_fails (eqb f oversampling.row.field) p.no_5)
    (chosen_fails (eqb n 6) (and_fails (eqb f pedestal.row.field) p.no_6)
    (chosen_fails (eqb n 7) (and_fails (eqb f signalling.field) p.no_7)
    (meets_none (coding_refused zs n) f table
    (all_map (Taken zs) (λ e. coding_refused zs n e ≡ false) (λ e h. coding-refused zs n e ∙ ap (refused_by n) h) table p.taken)))))

-- settings that pass are such
pub has_passed : (zs : List ℤ) → check_of zs ≡ good tt → Passing zs
unfolding check_of row_holds
has_passed zs e =
    let clear = (cleared (row_holds zs) order tt tt e).1 in
    record {
      taken =
          all_map (λ e. Clear (codes_of zs e)) (Taken zs) (λ e c. codes-taken (codes_of zs e) (codes-sound zs e) c) table
          (each-clear (codes_of zs) (coding_refused zs) (coding-refused zs) (λ f t. clear 3 f t) (λ f t. clear 4 f t) (λ f t. clear 8 f t));
      no_5 = clear 5 oversampling.row.field place_5;
      no_6 = clear 6 pedestal.row.field place_6;
      no_7 = clear 7 signalling.field place_7;
    }
  where
    codes-taken : (j : Judged (List ℕ)) → T (sound j) → Clear j → j ≡ accepted (value_or [] j)
    codes-taken j t c = let a = is-accepted j t c in a.1 ∙ ap (λ i. accepted (value_or [] i)) (sym a.1)

-- ---- an image

-- a reading is accepted
abbrev pub Read : List ℕ → Entry → Type 0
Read image e = entry_reading image e ≡ accepted (value_or [] (entry_reading image e))

-- every reading is, and no two fields conflict
pub record Reading (image : List ℕ) : Type 0 where
  pub read : All (Read image) table
  pub no_5 : square_with_oversampling (settings_held image) ≡ false
  pub no_6 : pedestal_with_pal (settings_held image) ≡ false
  pub no_7 : held_conflict (setting_held image standard) (bytes_in image signalling) ≡ false

-- signalling goes with a standard
no_conflict : (z : ℤ) (image : List ℕ) → held_conflict z (bytes_in image signalling) ≡ false → All (λ e. conflict_in z image e ≡ false) table
unfolding table
no_conflict z image h =
    let P : Entry → Type 0 = λ e. conflict_in z image e ≡ false in
    all_singles P (λ f. refl) timing _ (
      refl,
      all_singles P (λ f. refl) output _
          (h, all_singles P (λ f. refl) picture _ (all_singles P (λ f. refl) dnr _ (refl, (refl, (refl, tt))))),
    )

-- such an image is good
pub reading : (image : List ℕ) → Reading image → judge_of image ≡ good tt
unfolding judge_of row_held
reading image p =
    all-clear (row_held image) order tt (λ n f.
    chosen_fails (eqb n 5) (and_fails (eqb f oversampling.row.field) p.no_5)
    (chosen_fails (eqb n 6) (and_fails (eqb f pedestal.row.field) p.no_6)
    (chosen_fails (eqb n 7) (and_fails (eqb f signalling.field) p.no_7)
    (meets_none (reading_refused image n) f table
    (all_map (Read image) (λ e. reading_refused image n e ≡ false) (λ e h. reading_refused_lem image n e ∙ ap (refused_by n) h) table p.read)))))

-- a good image is such
pub has_read : (image : List ℕ) → judge_of image ≡ good tt → Reading image
unfolding judge_of row_held
has_read image e =
    let clear = (cleared (row_held image) order tt tt e).1 in
    let seven = clear 7 signalling.field place_7 in
    let z = setting_held image standard in
    record {
      read =
          all_zip (λ e. conflict_in z image e ≡ false) (λ e. Clear (entry_reading image e)) (Read image)
          (λ e h c. numbers-taken (entry_reading image e) (reading_sound z image e h) c) table (no_conflict z image seven)
          (each-clear (entry_reading image) (reading_refused image) (reading_refused_lem image)
          (λ f t. clear 3 f t) (λ f t. clear 4 f t) (λ f t. clear 8 f t));
      no_5 = clear 5 oversampling.row.field place_5;
      no_6 = clear 6 pedestal.row.field place_6;
      no_7 = seven;
    }
  where
    numbers-taken : (j : Judged (List ℤ)) → T (sound j) → Clear j → j ≡ accepted (value_or [] j)
    numbers-taken j t c = let a = is-accepted j t c in a.1 ∙ ap (λ i. accepted (value_or [] i)) (sym a.1)
