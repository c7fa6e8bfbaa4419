-- Which bytes are codes of basic types, and which of those are keys.
use Rattle.std.specs.Prelude.{Bool, true, false}
use Rattle.meaning.specs.Signature.{is_key, Tok}
use Rattle.types.specs.Codes.{on_base}

abbrev pub base_tok : Tok → Bool
base_tok q = on_base (λ c. true) false q

abbrev pub key_tok : Tok → Bool
key_tok q = on_base is_key false q
