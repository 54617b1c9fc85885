-- What some command lines ask for, and some that are none: defaults, order, forms of values.
use Rattle.std.proofs.Common.{◌≡◌, List, [], ◌∷◌, refl}
use Rattle.std.specs.Prelude.{Option, Some, None, codes}
use Rattle.clap.proofs.OnLiterals.{clap_on_literals}
use Rattle.clap.specs.Words.{Text}
use Rattle.hv_types.specs.declared.settings.Settings.{Settings}
use Rattle.hv_types.specs.declared.settings.Emit.TheVariants.{Stream, Recon}
use Rattle.hv_words.specs.CommandLine.{settings_of}

abbrev sizes : List Text
sizes = codes "--width" ∷ codes "64" ∷ codes "--height" ∷ codes "48" ∷ []

defaults : settings_of sizes ≡ Some (record {
  width = 64;
  height = 48;
  qp = 32;
  levels = 3;
  group = 16;
  workers = 1;
  effort = 2;
  segment = 4;
  emit = Stream;
  synth = None;
})
unfolding clap_on_literals
defaults = refl

-- every option, in another order, with signs, zeros, `=` and a value above 255
all_options : settings_of
    (codes "--pictures=7" ∷ codes "--synth" ∷ codes "4294967295" ∷ codes "--emit" ∷ codes "recon"
    ∷ codes "--segment=300" ∷ codes "--effort" ∷ codes "+1" ∷ codes "--workers" ∷ codes "002"
    ∷ codes "--group" ∷ codes "255" ∷ codes "--levels" ∷ codes "0" ∷ codes "--qp" ∷ codes "51"
    ∷ codes "--height" ∷ codes "50" ∷ codes "--width" ∷ codes "66" ∷ []) ≡ Some (record {
      width = 66;
      height = 50;
      qp = 51;
      levels = 0;
      group = 255;
      workers = 2;
      effort = 1;
      segment = 255;
      emit = Recon;
      synth = Some (record { seed = 4294967295; pictures = 7 });
    })
unfolding clap_on_literals
all_options = refl

-- a generator has 60 pictures, and `--pictures` without one says nothing
generated : settings_of (codes "--synth=5" ∷ sizes) ≡ Some (record {
  width = 64;
  height = 48;
  qp = 32;
  levels = 3;
  group = 16;
  workers = 1;
  effort = 2;
  segment = 4;
  emit = Stream;
  synth = Some (record { seed = 5; pictures = 60 });
})
unfolding clap_on_literals
generated = refl

pictures_alone : settings_of (codes "--pictures" ∷ codes "9" ∷ sizes) ≡ settings_of sizes
unfolding clap_on_literals
pictures_alone = refl

-- ---- no command lines

abbrev behind : List Text → Option Settings
behind words = settings_of (codes "--width" ∷ codes "64" ∷ codes "--height" ∷ codes "48" ∷ words)

no_words : settings_of [] ≡ None
unfolding clap_on_literals
no_words = refl

no_height : settings_of (codes "--width" ∷ codes "64" ∷ []) ≡ None
unfolding clap_on_literals
no_height = refl

no_width : settings_of (codes "--height" ∷ codes "64" ∷ []) ≡ None
unfolding clap_on_literals
no_width = refl

help : behind (codes "--help" ∷ []) ≡ None
unfolding clap_on_literals
help = refl

short_help : behind (codes "-h" ∷ []) ≡ None
unfolding clap_on_literals
short_help = refl

misspelt : behind (codes "--levls" ∷ codes "1" ∷ []) ≡ None
unfolding clap_on_literals
misspelt = refl

begun : behind (codes "--lev" ∷ codes "1" ∷ []) ≡ None
unfolding clap_on_literals
begun = refl

repeated : behind (codes "--qp" ∷ codes "1" ∷ codes "--qp" ∷ codes "1" ∷ []) ≡ None
unfolding clap_on_literals
repeated = refl

one_word_more : behind (codes "film.yuv" ∷ []) ≡ None
unfolding clap_on_literals
one_word_more = refl

behind_hyphens : behind (codes "--" ∷ codes "film.yuv" ∷ []) ≡ None
unfolding clap_on_literals
behind_hyphens = refl

no_value : behind (codes "--qp" ∷ []) ≡ None
unfolding clap_on_literals
no_value = refl

empty_value : behind (codes "--qp=" ∷ []) ≡ None
unfolding clap_on_literals
empty_value = refl

negative : behind (codes "--qp=-1" ∷ []) ≡ None
unfolding clap_on_literals
negative = refl

too_great : behind (codes "--synth" ∷ codes "4294967296" ∷ []) ≡ None
unfolding clap_on_literals
too_great = refl

no_number : behind (codes "--qp" ∷ codes "3x" ∷ []) ≡ None
unfolding clap_on_literals
no_number = refl

other_emit : behind (codes "--emit" ∷ codes "Recon" ∷ []) ≡ None
unfolding clap_on_literals
other_emit = refl
