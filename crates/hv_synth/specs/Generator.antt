-- Generated video: each sample from its place, the number of its picture and a seed.
use Rattle.std.specs.Prelude.{ℕ, ◌+◌, ◌*◌, ◌/◌, ◌%◌, List, [], Option, None, Some}
use Rattle.std.specs.Int.Bits.{bit_xor}
use Rattle.hv_lemmas.specs.Lists.{tabulate}
use Rattle.hv_types.specs.Samples.{plane_of}
use Rattle.hv_types.specs.declared.picture.Picture.{Picture}
use Rattle.hv_types.specs.declared.settings.Settings.{Settings}
use Rattle.hv_types.specs.declared.settings.SynthSpec.{SynthSpec}

-- a pattern without edges, in column a and row b: two slopes, and steps at each 8 columns and rows
abbrev pub pattern : ℕ → ℕ → ℕ → ℕ
pattern seed a b =
    (a * (3 + seed % 5) + b * (2 + seed % 3) + bit_xor (a / 8) (b / 8) * (1 + seed % 7)) % 256

-- the samples in column x and row y of picture t: luma shows the pattern, which it moves along by
-- two columns and a row a picture
abbrev pub luma : ℕ → ℕ → ℕ → ℕ → ℕ
luma seed t x y = pattern seed (x + 2 * t) (y + t)

abbrev pub cb : ℕ → ℕ → ℕ → ℕ → ℕ
cb seed t x y = (x + y + t + seed) % 256

abbrev pub cr : ℕ → ℕ → ℕ → ℕ
cr t x y = (2 * x + y + 3 * t) % 256

-- picture t, of this width and height
abbrev pub generated_picture : ℕ → ℕ → ℕ → ℕ → Picture
generated_picture w h seed t = record {
  luma = plane_of w h (luma seed t);
  cb = plane_of (w / 2) (h / 2) (cb seed t);
  cr = plane_of (w / 2) (h / 2) (cr t);
}

-- as many pictures as are asked for, from picture 0 on; none where no generator is named
abbrev pub generated_pictures : ℕ → ℕ → Option SynthSpec → List Picture
generated_pictures w h None = []
generated_pictures w h (Some s) = tabulate s.pictures (generated_picture w h s.seed)

-- the video that settings ask to be generated
abbrev pub generated : Settings → List Picture
generated s = generated_pictures s.width s.height s.synth
