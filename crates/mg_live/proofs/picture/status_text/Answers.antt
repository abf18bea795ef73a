use Rattle.std.proofs.Common.{rules, ◌∙◌, refl}
use Rattle.mg_live.proofs.picture.status_text.Goals as goal

pub returns : goal.returns
returns g c = (
  _,
  record {
    begun = c.is_amid_keys.ensures;
    buffer = rw c.current_index.ensures.exact at c.in_ok-buffer_status.ensures;
    changes = c.changes_status.ensures;
    cursor = search rules;
    keys = search rules;
    live_buffer = c.in_ok-live_status.ensures;
    loaded = search rules;
    message = c.as_str.ensures.value ∙ c.in_ok-message.ensures;
    mode = c.mode.ensures;
    more = refl;
    operations = refl;
    places = search rules;
    point = c.in_ok-point.ensures;
    prompt = c.prompt_status.ensures;
    refused = search rules;
    reports = search rules;
    rows = refl;
    saved = search rules;
    windows = search rules;
  },
  c.in_ok-status_line.ensures.text,
)
