-- The exit code of the status that is due, and of refused words.
use Rattle.std.proofs.Common.{◌≡◌, ℕ, inl, inr, ap, ◌∙◌}
use Rattle.std.specs.Prelude.{◌⊎◌}
use Rattle.hv_types.specs.declared.settings.Settings.{Settings}
use Rattle.hv_run.specs.declared.status.Status.{Status}
use Rattle.hv_run.specs.declared.status.Status.TheVariants.{Words, NoMemory}
use Rattle.hv_run.specs.Statuses.{code_of, status_due, IsDue}

pub code_due : (cfg : Settings) (z : ℕ) (s : Status) (code : ℕ) → code ≡ code_of s → IsDue cfg z s →
    (code ≡ 6) ⊎ (code ≡ code_of (status_due cfg z))
code_due cfg z s code is (inl e) = inl (is ∙ ap code_of e)
code_due cfg z s code is (inr e) = inr (is ∙ ap code_of e)

pub code_refused : (s : Status) (code : ℕ) → code ≡ code_of s → (s ≡ Words) ⊎ (s ≡ NoMemory) → (code ≡ 2) ⊎ (code ≡ 6)
code_refused s code is (inl e) = inl (is ∙ ap code_of e)
code_refused s code is (inr e) = inr (is ∙ ap code_of e)
