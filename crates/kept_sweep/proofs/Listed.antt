-- What is kept, as it is listed.
use Rattle.layout_model.proofs.Made.{made}
use Rattle.kept_sweep.specs.Swept.{KeptVisitsLaw}

pub kept_visits : KeptVisitsLaw
kept_visits m node context memo h visit =
    let law = made m node context visit in (
      λ listed.
          let r = law.0 listed in
          record {
            pair = record { path = r.0; context = r.2 };
            kept = h.all (record { path = r.0; context = r.2 }) record { element = r.1; made = r.3 };
            element = r.1;
            made = r.3;
            listed = r.4;
          },
      λ k. law.1 (k.pair.path, k.element, k.pair.context, k.made, k.listed),
    )
