-- The image that settings want is read back, as settings that have the same codes. Assumes nothing.
use mathlib.Core.Path.{◌≡◌, refl, sym, ap, ap₂, ◌∙◌}
use mathlib.Core.Bool.{◌&&◌}
use mathlib.Core.List.{List, [], ◌∷◌, ◌++◌, map, flat_map}
use Prim.Native.Nat.{ℕ}
use native.Mathlib.Nat.{mod-eq_of_lt}
use native.Mathlib.Omega.{arith}
use lib.Dec.{T}
use lib.IntN.{ℤ, pos}
use lib.ListN.{length}
use Rattle.refusals.specs.Refusal.{Judged, accepted, refused, value_or}
use Rattle.refusals.specs.Verdict.{good}
use Rattle.field_table.specs.declared.row.Row.{Row}
use Rattle.field_table.specs.Coding.{plain_of}
use Rattle.field_table.specs.Writes.{Write, puts, AllHeld}
use Rattle.field_table.specs.Walk.{given, held, coding_of, row_write, row_fits}
use Rattle.field_table.specs.Blocks.{is}
use Rattle.field_table.proofs.ApartLaws.{AllThere}
use Rattle.field_table.proofs.PlainLaws as plain
use Rattle.field_table.proofs.FitLaws.{FitsIn}
use Rattle.adv7194_bus.specs.Kind.{register_count}
use Rattle.adv7194_table.specs.Fields.{standard, square_pixel, oversampling, pedestal}
use Rattle.adv7194_table.specs.Blocks.{signalling}
use Rattle.adv7194_table.specs.Table.{Entry, single, whole, table}
use Rattle.adv7194_signalling.specs.Signalling.{held_conflict}
use Rattle.adv7194_settings.specs.Wanted.{block_writes, entry_writes, writes_of, wanted_by}
use Rattle.adv7194_settings.specs.Held.{setting_held, bytes_in, settings_held}
use Rattle.adv7194_settings.specs.Rows.{check_of}
use Rattle.adv7194_settings.proofs.FitLaws.{in_chip, writes_fit, wanted-bytes}
use Rattle.adv7194_settings.proofs.DemandLaws.{demanded}
use Rattle.adv7194_round_trip.specs.RoundTrip.{Bytes, ReadsBack}
use Rattle.adv7194_round_trip.proofs.EntryLaws as entries
use Rattle.adv7194_round_trip.proofs.EntryLaws.{All, all_zip, at-signalling}
use Rattle.adv7194_round_trip.proofs.RowLaws.{Taken, Passing, has_passed, Read, Reading, reading}
use Rattle.adv7194_round_trip.proofs.StoredLaws.{standard-stored, square_pixel_stored, oversampling-stored, pedestal-stored}
use Rattle.adv7194_round_trip.proofs.CodedLaws.{Known, known, Coded, one-back, there_coded, signal_again, there_read}
use Rattle.adv7194_round_trip.proofs.ReadMeans.{each_entry, held_coded, held_means}
use Rattle.adv7194_round_trip.specs.Entries.{alone, codes_of}
use Rattle.bits.specs.Lists.{Every}

-- ---- what settings with the same codes set

-- what an image holds of values that fit their bits is the values
held_whole : (image : List ℕ) (ws : List Write) → Every (FitsIn in_chip) ws → AllHeld image ws → AllThere image ws
held_whole image [] n h = tt
held_whole image (w ∷ ws) n h = (h.0 ∙ mod-eq_of_lt n.0.fits, held_whole image ws n.1 h.1)

-- settings have the same codes for an entry
abbrev Same : List ℤ → List ℤ → Entry → Type 0
Same ys zs e = codes_of ys e ≡ codes_of zs e

same-one : (i j : Judged ℕ) → alone i ≡ alone j → i ≡ j
same-one (accepted a) (accepted c) e = let q : a ≡ c = cc in ap accepted q
same-one (accepted a) (refused n) e = let x : ◌≡◌ {A = ℕ} 0 1 = cc in absurd (omega arith)
same-one (refused m) (accepted c) e = let x : ◌≡◌ {A = ℕ} 0 1 = cc in absurd (omega arith)
same-one (refused m) (refused n) e = let q : m ≡ n = cc in ap refused q

same_writes : (ys zs : List ℤ) (e : Entry) → Same ys zs e → entry_writes ys e ≡ entry_writes zs e
same_writes ys zs (single f) h = ap (λ j. row_write f.row (value_or 0 j) ∷ []) (same-one (coding_of ys f) (coding_of zs f) h)
same_writes ys zs (whole c b) h = ap (λ j. block_writes c b (value_or [] j)) h

all_writes : (ys zs : List ℤ) (es : List Entry) → All (Same ys zs) es → writes_of ys es ≡ writes_of zs es
unfolding writes_of flat_map
all_writes ys zs [] h = refl
all_writes ys zs (e ∷ es) h = ap₂ ◌++◌ (same_writes ys zs e h.0) (all_writes ys zs es h.1)

same_codes : (ys zs : List ℤ) (es : List Entry) → All (Same ys zs) es → map (codes_of ys) es ≡ map (codes_of zs) es
same_codes ys zs [] h = refl
same_codes ys zs (e ∷ es) h = ap₂ ◌∷◌ h.0 (same_codes ys zs es h.1)

-- ---- an image that has what settings set

module _ (out : List ℕ) (b : Bytes out) (zs : List ℤ) (p : Passing zs) (there : All (λ e. AllThere out (entry_writes zs e)) table) where
  abbrev Ready : Entry → Type 0
  Ready e = Known e × (Taken zs e × AllThere out (entry_writes zs e))

  ready : All Ready table
  ready =
      all_zip Known (λ e. Taken zs e × AllThere out (entry_writes zs e)) Ready (λ e k h. (k, h)) table known
      (all_zip (Taken zs) (λ e. AllThere out (entry_writes zs e)) (λ e. Taken zs e × AllThere out (entry_writes zs e)) (λ e t h. (t, h)) table p.taken there)

  coded : All (Coded out zs) table
  coded = entries.all_map Ready (Coded out zs) (λ e h. there_coded out b zs p.no_7 e h.0 h.1.0 h.1.1) table ready

  -- a setting that is its code is read as it was set
  plain_again : (r : Row) → T (row_fits r) → Coded out zs (single (plain_of r)) → given zs r ≡ setting_held out (plain_of r)
  plain_again r t e =
      sym (ap (value_or (pos 0)) (plain.read_coded r (plain.row_fits_lem r t) (given zs r) (held out r) (one-back (coding_of zs (plain_of r)) (held out r) e)))

  standard_again : given zs standard.row ≡ setting_held out standard
  standard_again = plain_again standard.row tt (entries.at-standard (Coded out zs) coded)

  square_again : given zs square_pixel.row ≡ setting_held out square_pixel
  square_again = plain_again square_pixel.row tt (entries.at_square_pixel (Coded out zs) coded)

  oversampling_again : given zs oversampling.row ≡ setting_held out oversampling
  oversampling_again = plain_again oversampling.row tt (entries.at-oversampling (Coded out zs) coded)

  pedestal_again : given zs pedestal.row ≡ setting_held out pedestal
  pedestal_again = plain_again pedestal.row tt (entries.at-pedestal (Coded out zs) coded)

  -- so it is good
  good_again : Reading out
  good_again =
      let signal = signal_again out b zs p.no_7 (at-signalling (Taken zs) p.taken) (at-signalling (λ e. AllThere out (entry_writes zs e)) there) in
      record {
        read =
            entries.all_map Ready (Read out)
            (λ e h. there_read out b zs p.no_7 standard_again square_again e h.0 h.1.0 h.1.1) table ready;
        no_5 =
            ap₂ (λ (x y : ℤ). is 1 x && is 1 y) (square_pixel_stored out ∙ sym square_again) (oversampling-stored out ∙ sym oversampling_again) ∙ p.no_5;
        no_6 = ap₂ (λ (x y : ℤ). is 1 x && is 1 y) (pedestal-stored out ∙ sym pedestal_again) (standard-stored out ∙ sym standard_again) ∙ p.no_6;
        no_7 = ap (λ z. held_conflict z (bytes_in out signalling)) (sym standard_again) ∙ signal.free;
      }

  -- and the settings that it holds have the same codes
  codes_again : All (Same (settings_held out) zs) table
  codes_again =
      all_zip (Coded out (settings_held out)) (Coded out zs) (Same (settings_held out) zs) (λ e g h. g ∙ sym h) table (held_coded out b good_again) coded

-- the image that settings want is read back, as settings that have the same codes
pub reads-back : (image : List ℕ) (zs : List ℤ) → length image ≡ register_count → Bytes image → check_of zs ≡ good tt → ReadsBack image zs
unfolding wanted_by
reads-back image zs size b e =
    let out = wanted_by image zs in
    let p = has_passed zs e in
    let bytes : Bytes out = record { byte = wanted-bytes image zs b.byte } in
    let there = each_entry _ zs table (held_whole out (writes_of zs table) (writes_fit zs) (demanded image zs size).fields) in
    let again = good_again out bytes zs p there in
    let codes = codes_again out bytes zs p there in
    record {
      reads = reading out again;
      passes = (held_means out bytes again).passes;
      codes = same_codes (settings_held out) zs table codes;
      same = ap (puts image) (all_writes (settings_held out) zs table codes);
    }
