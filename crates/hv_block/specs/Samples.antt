-- The samples of a coding tree block, as lists by rows.
use Rattle.std.specs.Prelude.{◌≡◌, ℕ, List, length, replicate}

-- 64x64 of luma, and 32x32 each of Cb and Cr
pub record Samples : Type 0 where
  pub luma : List ℕ
  pub cb : List ℕ
  pub cr : List ℕ

abbrev pub samples_of_lists : List ℕ → List ℕ → List ℕ → Samples
samples_of_lists luma cb cr = record { luma = luma; cb = cb; cr = cr }

pub record AreWholeSamples (samples : Samples) : Type 0 where
  pub luma : length samples.luma ≡ 4096
  pub cb : length samples.cb ≡ 1024
  pub cr : length samples.cr ≡ 1024

abbrev pub opening_samples : Samples
opening_samples = samples_of_lists (replicate 4096 0) (replicate 1024 0) (replicate 1024 0)
