-- A message in the parts that the reader of the meaning crate takes one after the other.
use Prim.Native.Nat.{ℕ}
use mathlib.Core.List.{List}
use mathlib.Core.Path.{◌≡◌, ap, sym}
use Rattle.meaning.specs.declared.Refusal.{Refusal}
use Rattle.std.specs.Prelude.{Err}
use Rattle.meaning.specs.declared.Fault.TheVariants.{InvalidHeaderFields}
use Rattle.meaning.specs.Faults.{moved}
use Rattle.meaning.specs.Signature.{parse}
use Rattle.meaning.specs.Message.{Field, complete, body_signature, Fixed, Message}
use Rattle.meaning.specs.Reader.{got, fault, R, ret, ◌>>=◌, ◌>>◌, check, inside}
use Rattle.meaning.specs.ReadValue.{padding, accept}
use Rattle.meaning.specs.ReadMessage.{to_zero, at_zero, fixed_r, table_r, Opened, open_r, body_r, message_of, read_message}
use Rattle.meaning.specs.Header.{header_from, read_header}
use Rattle.meaning.proofs.Local.{bind-got, bind-fault}

abbrev pub after3 : Fixed × ℕ → List Field → R Opened
after3 h fs = accept (parse (body_signature fs)) 0 >>= λ ts. ret (h, (fs, ts))

abbrev pub after2 : Fixed × ℕ → List Field → R Opened
after2 h fs = check (complete h.0.kind fs) InvalidHeaderFields 0 >> (padding 8 >> after3 h fs)

abbrev pub after1 : Fixed × ℕ → R Opened
after1 h = table_r h.0.order >>= λ fs. after2 h fs

abbrev pub body_then : Opened → R Message
body_then h = inside h.0.1 (body_r h.0.0.order h.1.1) >>= λ vs. ret (message_of h vs)

module _ (b : List ℕ) where
  -- "Faults before the body's values have position 0"
  pub not_opened : (x y : Refusal) → open_r b 0 ≡ fault x → y ≡ moved 0 x → Err y ≡ read_header b
  unfolding read_header read_message at_zero
  not_opened x y h e =
      rw e (sym (ap header_from (bind-fault (at_zero open_r) body_then b 0 (moved 0 x) (ap to_zero h))))

  module _ (h : Fixed × ℕ) (begins : fixed_r b 0 ≡ got h 12) where
    pub opens : open_r b 0 ≡ after1 h b 12
    unfolding open_r
    opens = bind-got fixed_r after1 b 0 h 12 begins
