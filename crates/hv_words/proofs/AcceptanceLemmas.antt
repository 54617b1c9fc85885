-- Words that are accepted ask for settings that are valid, and for no others.
use Rattle.std.proofs.Common.{◌≡◌, ℕ, List, refl, sym, ap, ◌∙◌}
use Rattle.std.specs.Prelude.{Option, Some, None, option_map}
use Rattle.hv_lemmas.proofs.OptionLemmas.{some_same}
use Rattle.hv_types.specs.declared.settings.Settings.{Settings}
use Rattle.hv_types.specs.declared.settings.ConfigError.{ConfigError}
use Rattle.hv_types.specs.Configuration.{IsValid, fault_of}
use Rattle.hv_types.proofs.ConfigurationLemmas.{valid}
use Rattle.hv_words.specs.CommandLine.{AsksFor, faulty, refusal_of_settings}

no_fault : (fault : Option ConfigError) → option_map faulty fault ≡ None → fault ≡ None
no_fault None e = refl
no_fault (Some error) e = cc

pub accepted_valid : (words : List (List ℕ)) (cfg : Settings) → AsksFor words cfg → IsValid cfg
accepted_valid words cfg a =
    valid cfg (no_fault (fault_of cfg) (ap refusal_of_settings (sym a.asked) ∙ a.accepted))

-- the settings are one
pub same_settings : (words : List (List ℕ)) (a b : Settings) → AsksFor words a → AsksFor words b →
    a ≡ b
same_settings words a b p q = some_same a b (sym p.asked ∙ q.asked)
