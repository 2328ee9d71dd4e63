mod UnreadLemmas
