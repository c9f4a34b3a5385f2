-- What is read from an image means that image. Assumes nothing.
use mathlib.Core.Path.{◌≡◌, sym, ap, ◌∙◌}
use mathlib.Core.List.{List, [], ◌∷◌, ◌++◌, flat_map}
use Prim.Native.Nat.{ℕ}
use lib.IntN.{ℤ}
use Rattle.refusals.specs.Refusal.{accepted, value_or}
use Rattle.refusals.specs.Verdict.{good}
use Rattle.field_table.specs.Writes.{Write}
use Rattle.field_table.proofs.ApartLaws.{AllThere, puts_there}
use Rattle.field_table.proofs.FitLaws.{each_append}
use Rattle.adv7194_table.specs.Fields.{standard}
use Rattle.adv7194_table.specs.Blocks.{signalling}
use Rattle.adv7194_table.specs.Table.{Entry, table}
use Rattle.adv7194_signalling.specs.Signalling.{signalling_conflict}
use Rattle.adv7194_settings.specs.Codes.{numbers_in}
use Rattle.adv7194_settings.specs.Wanted.{entry_writes, writes_of, wanted_by}
use Rattle.adv7194_settings.specs.Held.{setting_held, settings_held}
use Rattle.adv7194_settings.specs.Rows.{judge_of}
use Rattle.adv7194_round_trip.specs.RoundTrip.{Bytes, MeansItself}
use Rattle.adv7194_round_trip.proofs.EntryLaws.{All, all_map, all_zip, at-signalling}
use Rattle.adv7194_round_trip.proofs.RowLaws.{Taken, passing, Read, Reading, has_read}
use Rattle.adv7194_round_trip.proofs.StoredLaws.{Stored, stored, standard-stored, square_pixel_stored}
use Rattle.adv7194_round_trip.proofs.CodedLaws.{Known, known, Coded, signal_free, read_coded, coded_there}
use Rattle.bits.specs.Lists.{Every}

-- ---- the writes of some entries, entry by entry

divided : (P : Write → Type 0) (vs ws : List Write) → Every P (vs ++ ws) → Every P vs × Every P ws
divided P [] ws h = (tt, h)
divided P (v ∷ vs) ws h = let rest = divided P vs ws h.1 in ((h.0, rest.0), rest.1)

pub each_write : (P : Write → Type 0) (zs : List ℤ) (es : List Entry) → All (λ e. Every P (entry_writes zs e)) es → Every P (writes_of zs es)
unfolding writes_of flat_map
each_write P zs [] h = tt
each_write P zs (e ∷ es) h = each_append P (entry_writes zs e) (writes_of zs es) h.0 (each_write P zs es h.1)

pub each_entry : (P : Write → Type 0) (zs : List ℤ) (es : List Entry) → Every P (writes_of zs es) → All (λ e. Every P (entry_writes zs e)) es
unfolding writes_of flat_map
each_entry P zs [] h = tt
each_entry P zs (e ∷ es) h = let both = divided P (entry_writes zs e) (writes_of zs es) h in (both.0, each_entry P zs es both.1)

-- ---- an image whose readings are accepted

-- each code of the settings that it holds is the one that it holds
pub held_coded : (image : List ℕ) → Bytes image → Reading image → All (Coded image (settings_held image)) table
held_coded image b r =
    let zs = settings_held image in
    all_zip (λ e. Known e × Stored image zs e) (Read image) (Coded image zs)
    (λ e k h. read_coded image b zs (standard-stored image) (square_pixel_stored image) e k.0 k.1 h) table
    (all_zip Known (Stored image zs) (λ e. Known e × Stored image zs e) (λ e k s. (k, s)) table known (stored image)) r.read

-- so these settings mean it
pub held_means : (image : List ℕ) → Bytes image → Reading image → MeansItself image (settings_held image)
unfolding wanted_by
held_means image b r =
    let zs = settings_held image in
    let coded = held_coded image b r in
    let free = signal_free image b zs (at-signalling (Stored image zs) (stored image)) (at-signalling (Read image) r.read) (setting_held image standard) in
    let there = all_zip Known (Coded image zs) (λ e. AllThere image (entry_writes zs e)) (coded_there image b zs) table known coded in
    record {
      passes =
          passing zs (record {
            taken = all_map (Coded image zs) (Taken zs) (λ e h. h ∙ ap (λ j. accepted (value_or [] j)) (sym h)) table coded;
            no_5 = r.no_5;
            no_6 = r.no_6;
            no_7 = ap (λ z. signalling_conflict z (numbers_in zs signalling)) (standard-stored image) ∙ free ∙ r.no_7;
          });
      same = puts_there image (writes_of zs table) (each_write _ zs table there);
    }

-- what is read from an image means that image
pub means_itself : (image : List ℕ) → Bytes image → judge_of image ≡ good tt → MeansItself image (settings_held image)
means_itself image b e = held_means image b (has_read image e)
